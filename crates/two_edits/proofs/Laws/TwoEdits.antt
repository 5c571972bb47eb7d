-- R-2, as theorems of the operations, for both places of the padding: two edits of one frame, of parts apart and of the same part, and an edit to the value already there.
use Rattle.std.specs.Prelude.{◌≡◌, refl, ◌↔◌, List, [], ◌++◌, ℕ, length}
use Rattle.std.proofs.Common.{sym, ap, subst, ◌∙◌}
use Rattle.std.proofs.Math.Option.{some, some-injective}
use Rattle.model.specs.Outcome.{done, refused}
use Rattle.model.specs.Bytes.{Bytes}
use Rattle.model.specs.Types.{Ty}
use Rattle.model.specs.Values.{Value, Valid}
use Rattle.model.specs.ValueFiles.{encode, value_file, value_of}
use Rattle.model.specs.Frames.{Place, frame_file}
use Rattle.model.specs.Paths.{Found, steps, follow}
use Rattle.model.specs.Parts.{Part, part}
use Rattle.model.specs.Operations.{lowering, part_read, edited}
use Rattle.model.specs.Conditions.{PathLeads}
use Rattle.model.proofs.Laws.ValueFiles.{value_read_written, value_written_read, bytes_value_file}
use Rattle.model.proofs.Laws.FrameFiles.{bytes_frame_file, length_frame_file}
use Rattle.model.proofs.Laws.Parts.{part_there}
use Rattle.model.proofs.Laws.Lowering.{Known, known}
use Rattle.model.proofs.Laws.Operations.{part_allowed, unframed_read}
use Rattle.model.proofs.Laws.Demands.{edit_accepted, part_read_accepted}
use Rattle.two_edits.specs.TwoEdits.{LiesWithin, Apart, PartsApart, SamePart, BeginWith, StepsPart, PathsPart, EitherOrder}
use Rattle.two_edits.proofs.Laws.Diverging.{Diverge, parting, turned_paths}
use Rattle.two_edits.proofs.Laws.Fillings.{holding, Again, Swap, part_again, part_swap, none_stays}
use Rattle.two_edits.proofs.Laws.Ranges.{within_steps, apart_diverge, same_steps}
use Rattle.two_edits.proofs.Laws.Edits.{At, Put, edited_is, edited_put, Refused, odd, nowhere, unread, refused_edit, edit_refused_by, part_read_is, part_read_put, follows}

module _ (p : Place) (ty : List ℕ) where
  -- OF A VALUE'S FRAME

  module _ (t : Ty) (k : lowering ty ≡ done t) (q : Known ty t) (v : Value t) (h : Valid t v) where
    module _ (path : List ℕ) (c : Part (Value t)) (a : At p ty t k q v h path c) where
      -- the value with the part c filled
      puts : (val : List ℕ) (new : Value c.type) → Bytes val → value_of c.type val ≡ done new → Valid t (c.put new)
      puts val new b r = (part_there p t a.picks v c h a.leads).puts new (value_written_read c.type val new b r).0

      again : Again (part p t a.picks) c
      again = rw a.leads at (part_again p a.picks t v)

      -- there the path leads to c again, with what was put in it
      still_there : (new : Value c.type) (o : Valid t (c.put new)) → At p ty t k q (c.put new) o path (holding c new (again.ahead new))
      still_there new o = record { picks = a.picks; even = a.even; leads = again.finds new }

      -- what was put is read
      reads_put : (val result : List ℕ) → Bytes val → Put p ty t k q v h c val result → part_read p ty result path ≡ done val
      reads_put val result b u =
          let o = puts val u.new b u.says in
          ap (λ f. part_read p ty f path) u.result_is ∙ part_read_is p ty t k q (c.put u.new) o path _ (still_there u.new o) ∙ ap done (sym (value_written_read c.type val u.new b u.says).1)

      -- and what is put next counts
      second_put : (val new x y : List ℕ) → Bytes val → Bytes new → Put p ty t k q v h c val x → Put p ty t k q v h c new y → edited p ty x path new ≡ done y
      second_put val new x y b d u w =
          let o = puts val u.new b u.says in
          ap (λ f. edited p ty f path new) u.result_is ∙ edited_is p ty t k q (c.put u.new) o path _ (still_there u.new o) new w.new d w.says ∙ ap done (sym w.result_is)

      -- what is there is put again
      same_put : (val : List ℕ) → val ≡ value_file c.type c.value → edited p ty (frame_file p t v) path val ≡ done (frame_file p t v)
      same_put val e =
          let l = part_there p t a.picks v c h a.leads in
          let w = part_allowed p a.picks t v c q.file.allowed a.leads in
          ap (edited p ty (frame_file p t v) path) e
          ∙ edited_is p ty t k q v h path c a (value_file c.type c.value) c.value (bytes_value_file c.type c.value w l.valid) (value_read_written c.type c.value w l.valid)
          ∙ ap (λ x. done (frame_file p t x)) l.same

    -- of two parts that can be filled in either order, the second is filled to the same value
    puts_either : (path other : List ℕ) (c d : Part (Value t)) (a : At p ty t k q v h path c) (b : At p ty t k q v h other d) → Swap (part p t a.picks) (part p t b.picks) c d
        → (val new x y : List ℕ) → Bytes val → Bytes new → Put p ty t k q v h c val x → Put p ty t k q v h d new y → (left : List ℕ) × (edited p ty x other new ≡ done left) × (edited p ty y path val ≡ done left)
    puts_either path other c d a b s val new x y vb nb u w =
        let o = puts path c a val u.new vb u.says in
        let i = puts other d b new w.new nb w.says in (
          frame_file p t (s.both u.new w.new),
          ap (λ f. edited p ty f other new) u.result_is ∙ edited_is p ty t k q (c.put u.new) o other _ (record { picks = b.picks; even = b.even; leads = s.left u.new }) new w.new nb w.says,
          ap (λ f. edited p ty f path val) w.result_is ∙ edited_is p ty t k q (d.put w.new) i path _ (record { picks = a.picks; even = a.even; leads = s.right w.new }) val u.new vb u.says,
        )

    -- and what is refused of the one part is refused behind a filling of the other, with the same number
    refused_behind : (path other : List ℕ) (d : Part (Value t)) (b : At p ty t k q v h other d) → PathsPart path other → (val new y : List ℕ) (n : ℕ) → Bytes new → Put p ty t k q v h d new y → Refused p ty t k q v h path val n → edited p ty y path val ≡ refused n
    refused_behind path other d b s val new y n nb w r = ap (λ f. edited p ty f path val) w.result_is ∙ refused_edit p ty t k q (d.put w.new) o path val n (still r)
      where
        o : Valid t (d.put w.new)
        o = puts other d b new w.new nb w.says

        apart : (picks : List ℕ) → steps path ≡ done picks → Diverge b.picks picks
        apart picks even = parting b.picks picks (turned_paths path other s b.picks picks b.even even)

        still : Refused p ty t k q v h path val n → Refused p ty t k q (d.put w.new) o path val n
        still (odd e) = odd e
        still (nowhere picks even e z) = nowhere picks even (none_stays p (apart picks even) t v h d b.leads e w.new) z
        still (unread c a e) = swapped (rw (b.leads, a.leads) at (part_swap p (apart a.picks a.even) t v))
          where
            swapped : Swap (part p t b.picks) (part p t a.picks) d c → Refused p ty t k q (d.put w.new) o path val n
            swapped i = unread _ (record { picks = a.picks; even = a.even; leads = i.left w.new }) e

  -- OF A FRAME

  module _ (frame : List ℕ) (tyb : Bytes ty) (fb : Bytes frame) where
    -- the frame, if a path leads to a part of it, is a value's
    with_value : {A : Type 0} (path : List ℕ) (f : Found) → PathLeads p ty frame path f → ((t : Ty) (k : lowering ty ≡ done t) (q : Known ty t) (v : Value t) → Valid t v → frame ≡ frame_file p t v → A) → A
    with_value path f l g =
        let q = known ty l.type tyb l.lowers in
        let s = unframed_read p ty l.type l.lowers q frame l.old fb l.accepted in
        g l.type l.lowers q s.value s.valid s.frame_is

    -- as it is if an edit is accepted
    module _ (path val x : List ℕ) (vb : Bytes val) (h : edited p ty frame path val ≡ done x) where
      with_edit : {A : Type 0} → ((t : Ty) (k : lowering ty ≡ done t) (q : Known ty t) (v : Value t) (o : Valid t v) → frame ≡ frame_file p t v → (c : Part (Value t)) → At p ty t k q v o path c → Put p ty t k q v o c val x → A) → A
      with_edit g =
          let (_, _, (target, leads, _)) = (edit_accepted p ty frame path val tyb fb vb).0 (x, h) in
          with_value path target leads (λ t k q v o e. let (c, a, u) = edited_put p ty t k q v o path val x vb (rw e at h) in g t k q v o e c a u)

      -- an accepted edit leaves bytes
      pub edited_bytes : Bytes x
      edited_bytes = with_edit (λ t k q v o e c a u. rw u.result_is (bytes_frame_file p t (c.put u.new)))

      -- as many as the frame has
      pub edited_length : length x ≡ length frame
      edited_length = with_edit (λ t k q v o e c a u. ap length u.result_is ∙ length_frame_file p t (c.put u.new) (puts t k q v o path c a val u.new vb u.says) ∙ sym (ap length e ∙ length_frame_file p t v o))

      -- in which the part reads as it was edited to
      pub edited_reads : part_read p ty x path ≡ done val
      edited_reads = with_edit (λ t k q v o e c a u. reads_put t k q v o path c a val x vb u)

    -- as it is if a part of it is read
    module _ (path val : List ℕ) (h : part_read p ty frame path ≡ done val) where
      with_read : {A : Type 0} → ((t : Ty) (k : lowering ty ≡ done t) (q : Known ty t) (v : Value t) (o : Valid t v) → frame ≡ frame_file p t v → (c : Part (Value t)) → At p ty t k q v o path c → val ≡ value_file c.type c.value → A) → A
      with_read g =
          let (target, leads) = (part_read_accepted p ty frame path tyb fb).0 (val, h) in
          with_value path target leads (λ t k q v o e. let (c, a, w) = part_read_put p ty t k q v o path val (rw e at h) in g t k q v o e c a w)

      -- what is read of a part are bytes
      pub read_bytes : Bytes val
      read_bytes = with_read (λ t k q v o e c a w. rw w (bytes_value_file c.type c.value (part_allowed p a.picks t v c q.file.allowed a.leads) (part_there p t a.picks v c o a.leads).valid))

      -- AN EDIT TO THE VALUE ALREADY THERE is accepted and leaves the frame equal. No other edit does: `edited_reads`, where x is the frame
      pub already_there : edited p ty frame path val ≡ done frame
      already_there = with_read (λ t k q v o e c a w. rw e (same_put t k q v o path c a val w))

    -- WITHIN AND APART, by the paths' steps
    module _ (path other : List ℕ) (f g : Found) (l : PathLeads p ty frame path f) (m : PathLeads p ty frame other g) where
      -- a part lies within another exactly when its path begins with the other's steps
      pub within_by_steps : LiesWithin g f ↔ BeginWith m.picks l.picks
      within_by_steps =
          let q = known ty l.type tyb l.lowers in
          let s = unframed_read p ty l.type l.lowers q frame l.old fb l.accepted in
          within_steps p l.picks m.picks l.type s.value [] f g s.valid
          (follows p ty l.type l.lowers q s.value s.valid frame path l.picks f s.frame_is l.even l)
          (follows p ty l.type l.lowers q s.value s.valid frame other m.picks g s.frame_is m.even m)

    -- so neither lies within the other exactly when neither path begins with the other's steps
    pub apart_by_steps : (path other : List ℕ) (f g : Found) (l : PathLeads p ty frame path f) (m : PathLeads p ty frame other g) → Apart f g ↔ StepsPart l.picks m.picks
    apart_by_steps path other f g l m =
        let (a, b) = within_by_steps path other f g l m in
        let (c, d) = within_by_steps other path g f m l in
        ((λ n. ((λ i. n.1 (b i)), λ i. n.0 (d i))), λ n. ((λ i. n.1 (c i)), λ i. n.0 (a i)))

    -- of two edits that are accepted alone it is enough to look at the paths, which say it of every frame
    pub parts_apart : (path val other new x y : List ℕ) → Bytes val → Bytes new → edited p ty frame path val ≡ done x → edited p ty frame other new ≡ done y → PathsPart path other → PartsApart p ty frame path other
    parts_apart path val other new x y vb nb h m s =
        let (_, _, (part, leads, _)) = (edit_accepted p ty frame path val tyb fb vb).0 (x, h) in
        let (_, _, (other_part, other_leads, _)) = (edit_accepted p ty frame other new tyb fb nb).0 (y, m) in
        record { part = part; leads = leads; other_part = other_part; other_leads = other_leads; apart = (apart_by_steps path other part other_part leads other_leads).1 (s leads.picks other_leads.picks leads.even other_leads.even) }

    -- and one path leads to one part
    pub same_part : (path val x : List ℕ) → Bytes val → edited p ty frame path val ≡ done x → SamePart p ty frame path path
    same_part path val x vb h = let (_, _, (part, leads, _)) = (edit_accepted p ty frame path val tyb fb vb).0 (x, h) in record { part = part; leads = leads; other_leads = leads }

  -- TWO EDITS, each accepted alone: the one leaves x, the other y
  module _ (frame path val other new x y : List ℕ) (tyb : Bytes ty) (fb : Bytes frame) (vb : Bytes val) (nb : Bytes new) (h : edited p ty frame path val ≡ done x) (m : edited p ty frame other new ≡ done y) where
    -- what both were made of
    record Made : Type 0 where
      pub type : Ty
      pub lowers : lowering ty ≡ done type
      pub knows : Known ty type
      pub value : Value type
      pub valid : Valid type value
      pub frame_is : frame ≡ frame_file p type value
      pub one : Part (Value type)
      pub one_at : At p ty type lowers knows value valid path one
      pub one_put : Put p ty type lowers knows value valid one val x
      pub other_one : Part (Value type)
      pub other_at : At p ty type lowers knows value valid other other_one
      pub other_put : Put p ty type lowers knows value valid other_one new y

    made : Made
    made = with_edit frame tyb fb path val x vb h (λ t k q v o e c a u.
        let (d, b, w) = edited_put p ty t k q v o other new y nb (rw e at m) in
        record { type = t; lowers = k; knows = q; value = v; valid = o; frame_is = e; one = c; one_at = a; one_put = u; other_one = d; other_at = b; other_put = w })

    module _ (f g : Found) (l : PathLeads p ty frame path f) (n : PathLeads p ty frame other g) where
      one_follows : follow made.type made.one_at.picks (encode made.type made.value ++ []) ≡ some f
      one_follows = follows p ty made.type made.lowers made.knows made.value made.valid frame path made.one_at.picks f made.frame_is made.one_at.even l

      other_follows : follow made.type made.other_at.picks (encode made.type made.value ++ []) ≡ some g
      other_follows = follows p ty made.type made.lowers made.knows made.value made.valid frame other made.other_at.picks g made.frame_is made.other_at.even n

    -- NEITHER PART LIES WITHIN THE OTHER: both orders are accepted and leave the same frame
    pub either_order : PartsApart p ty frame path other → EitherOrder p ty path val other new x y
    either_order s = go made (one_follows s.part s.other_part s.leads s.other_leads) (other_follows s.part s.other_part s.leads s.other_leads)
      where
        order : (left : List ℕ) → edited p ty x other new ≡ done left → edited p ty y path val ≡ done left → EitherOrder p ty path val other new x y
        order left e f = record {
          left = left;
          other_second = e;
          one_second = f;
          one_reads = edited_reads y tyb (edited_bytes frame tyb fb other new y nb m) path val left vb f;
          other_reads = edited_reads x tyb (edited_bytes frame tyb fb path val x vb h) other new left nb e;
        }

        go : (a : Made) → follow a.type a.one_at.picks (encode a.type a.value ++ []) ≡ some s.part → follow a.type a.other_at.picks (encode a.type a.value ++ []) ≡ some s.other_part → EitherOrder p ty path val other new x y
        go a e f =
            let d = apart_diverge p a.one_at.picks a.other_at.picks a.type a.value [] s.part s.other_part a.valid e f s.apart in
            let i : Swap (part p a.type a.one_at.picks) (part p a.type a.other_at.picks) a.one a.other_one = rw (a.one_at.leads, a.other_at.leads) at (part_swap p d a.type a.value) in
            let (left, r, u) = puts_either a.type a.lowers a.knows a.value a.valid path other a.one a.other_one a.one_at a.other_at i val new x y vb nb a.one_put a.other_put in
            order left r u

    -- THE SAME PART: the second edit is accepted and leaves what it alone would
    pub second_counts : SamePart p ty frame path other → edited p ty x other new ≡ done y
    second_counts s = go made (one_follows s.part s.part s.leads s.other_leads) (other_follows s.part s.part s.leads s.other_leads)
      where
        go : (a : Made) → follow a.type a.one_at.picks (encode a.type a.value ++ []) ≡ some s.part → follow a.type a.other_at.picks (encode a.type a.value ++ []) ≡ some s.part → edited p ty x other new ≡ done y
        go a e f =
            let w = same_steps p a.one_at.picks a.other_at.picks a.type a.value [] s.part s.part a.valid e f refl in
            let c : a.one ≡ a.other_one = some-injective _ _ (sym a.one_at.leads ∙ ap (λ q. part p a.type q a.value) w ∙ a.other_at.leads) in
            second_put a.type a.lowers a.knows a.value a.valid other a.other_one a.other_at val new x y vb nb (subst (λ c. Put p ty a.type a.lowers a.knows a.value a.valid c val x) c a.one_put) a.other_put

  -- AN EDIT THAT IS REFUSED ALONE: if neither path's steps begin with the other's, it is refused behind the other, too, with the same number
  pub refused_alike : (frame path val other new y : List ℕ) (n : ℕ) → Bytes ty → Bytes frame → Bytes val → Bytes new → PathsPart path other → edited p ty frame path val ≡ refused n → edited p ty frame other new ≡ done y → edited p ty y path val ≡ refused n
  refused_alike frame path val other new y n tyb fb vb nb s h m =
      with_edit frame tyb fb other new y nb m (λ t k q v o e d b w. refused_behind t k q v o path other d b s val new y n nb w (edit_refused_by p ty t k q v o path val n vb (rw e at h)))

-- An edit of a frame is a filling of its value's part, and a part that is read is its value's file: for a type that lowers, between the operations and the values.
use Rattle.std.specs.Prelude.{◌≡◌, ℕ}
use Rattle.std.proofs.Math.Path.{refl, ap}
use Rattle.std.proofs.Common.{sym, subst, ◌∙◌}
use mathlib.Core.List.{List, [], ◌++◌, append-nil}
use Rattle.std.proofs.Math.Option.{Option, none, some}
use Rattle.model.specs.Numbers.{no_such_part}
use Rattle.model.specs.Outcome.{Outcome, done, refused}
use Rattle.model.specs.Bytes.{Bytes}
use Rattle.model.specs.Types.{Ty}
use Rattle.model.specs.Values.{Value, Valid}
use Rattle.model.specs.ValueFiles.{encode, value_file, value_of}
use Rattle.model.specs.Frames.{Place, frame_file}
use Rattle.model.specs.Paths.{Found, steps, found, follow}
use Rattle.model.specs.Parts.{Part, part}
use Rattle.model.specs.Operations.{lowering, unframed, part_read, edited}
use Rattle.model.specs.Conditions.{PathLeads}
use Rattle.model.proofs.Laws.Outcome.{refused_done, done_injective, refused_injective, outcome_step}
use Rattle.model.proofs.Laws.ValueFiles.{records_value_file, value_written_read}
use Rattle.model.proofs.Laws.Parts.{part_there}
use Rattle.model.proofs.Laws.FileParts.{Stands}
use Rattle.model.proofs.Laws.Lowering.{Known}
use Rattle.model.proofs.Laws.Operations.{replaced_file, part_file, found_leads, framed_is, unframed_is}

module _ (p : Place) (ty : List ℕ) (t : Ty) (k : lowering ty ≡ done t) (q : Known ty t) (v : Value t) (h : Valid t v) where
  -- a part of the value, by a path
  pub record At (path : List ℕ) (c : Part (Value t)) : Type 0 where
    pub picks : List ℕ
    pub even : steps path ≡ done picks
    pub leads : part p t picks v ≡ some c

  stands : (path : List ℕ) (c : Part (Value t)) (a : At path c) → Stands p (encode t) c (found t a.picks (value_file t v))
  stands path c a = rw a.leads at (found_leads p t v a.picks q.file.allowed h)

  -- EDITS

  -- filling the part is what the edit does
  pub edited_is : (path : List ℕ) (c : Part (Value t)) → At path c → (val : List ℕ) (new : Value c.type) → Bytes val → value_of c.type val ≡ done new → edited p ty (frame_file p t v) path val ≡ done (frame_file p t (c.put new))
  unfolding edited
  edited_is path c a val new b r =
      let st = stands path c a in
      let l = part_there p t a.picks v c h a.leads in
      let (o, i) = value_written_read c.type val new b r in
      rw (k, unframed_is p ty t k q v h, a.even, st.leads, r) (rw i (rw (replaced_file p t v c l (found t a.picks (value_file t v)) st new) (framed_is p ty t k q (c.put new) (l.puts new o))))

  -- the file `val` was put to the part c, and `result` is the frame of that
  pub record Put (c : Part (Value t)) (val result : List ℕ) : Type 0 where
    pub new : Value c.type
    pub says : value_of c.type val ≡ done new
    pub result_is : result ≡ frame_file p t (c.put new)

  -- an edit is refused, of a frame that is accepted, for the path's length, for want of a part, or for the new value
  pub data Refused (path val : List ℕ) (n : ℕ) : Type 0 where
    odd : steps path ≡ refused n → Refused path val n
    nowhere : (picks : List ℕ) → steps path ≡ done picks → part p t picks v ≡ none → n ≡ no_such_part → Refused path val n
    unread : (c : Part (Value t)) → At path c → value_of c.type val ≡ refused n → Refused path val n

  pub refused_edit : (path val : List ℕ) (n : ℕ) → Refused path val n → edited p ty (frame_file p t v) path val ≡ refused n
  unfolding edited
  refused_edit path val n (odd e) = rw (k, unframed_is p ty t k q v h, e) refl
  refused_edit path val n (nowhere picks even e z) =
      let f : found t picks (value_file t v) ≡ none = rw e at (found_leads p t v picks q.file.allowed h) in
      rw (k, unframed_is p ty t k q v h, even, f) (ap refused (sym z))
  refused_edit path val n (unread c a r) = rw (k, unframed_is p ty t k q v h, a.even, (stands path c a).leads, r) refl

  -- so every edit fills a part or is refused
  data Ended (path val : List ℕ) : Type 0 where
    filled : (c : Part (Value t)) → At path c → (new : Value c.type) → value_of c.type val ≡ done new → Ended path val
    ends_refused : (n : ℕ) → Refused path val n → Ended path val

  ended : (path val : List ℕ) → Ended path val
  ended path val = on_path (steps path) refl
    where
      on_value : (c : Part (Value t)) → At path c → (o : Outcome (Value c.type)) → value_of c.type val ≡ o → Ended path val
      on_value c a (done new) e = filled c a new e
      on_value c a (refused n) e = ends_refused n (unread c a e)

      on_part : (picks : List ℕ) → steps path ≡ done picks → (o : Option (Part (Value t))) → part p t picks v ≡ o → Ended path val
      on_part picks even none e = ends_refused no_such_part (nowhere picks even e refl)
      on_part picks even (some c) e = on_value c (record { picks = picks; even = even; leads = e }) (value_of c.type val) refl

      on_path : (o : Outcome (List ℕ)) → steps path ≡ o → Ended path val
      on_path (refused n) e = ends_refused n (odd e)
      on_path (done picks) e = on_part picks e (part p t picks v) refl

  -- what an edit that gives a result has done
  pub edited_put : (path val result : List ℕ) → Bytes val → edited p ty (frame_file p t v) path val ≡ done result → (c : Part (Value t)) × At path c × Put c val result
  edited_put path val result b m = go (ended path val)
    where
      go : Ended path val → (c : Part (Value t)) × At path c × Put c val result
      go (filled c a new e) = (c, a, record { new = new; says = e; result_is = done_injective result (frame_file p t (c.put new)) (sym m ∙ edited_is path c a val new b e) })
      go (ends_refused n r) = absurd (refused_done n result (sym (refused_edit path val n r) ∙ m))

  -- and why one is refused
  pub edit_refused_by : (path val : List ℕ) (n : ℕ) → Bytes val → edited p ty (frame_file p t v) path val ≡ refused n → Refused path val n
  edit_refused_by path val n b m = go (ended path val)
    where
      go : Ended path val → Refused path val n
      go (filled c a new e) = absurd (refused_done n (frame_file p t (c.put new)) (sym m ∙ edited_is path c a val new b e))
      go (ends_refused i r) = subst (Refused path val) (refused_injective i n (sym (refused_edit path val i r) ∙ m)) r

  -- PART READ

  pub part_read_is : (path : List ℕ) (c : Part (Value t)) → At path c → part_read p ty (frame_file p t v) path ≡ done (value_file c.type c.value)
  unfolding part_read
  part_read_is path c a =
      let st = stands path c a in
      let l = part_there p t a.picks v c h a.leads in
      rw (k, unframed_is p ty t k q v h, a.even, st.leads) (ap done (part_file p t v c l (found t a.picks (value_file t v)) st))

  part_read_nowhere : (path picks : List ℕ) → steps path ≡ done picks → part p t picks v ≡ none → part_read p ty (frame_file p t v) path ≡ refused no_such_part
  unfolding part_read
  part_read_nowhere path picks even e =
      let f : found t picks (value_file t v) ≡ none = rw e at (found_leads p t v picks q.file.allowed h) in
      rw (k, unframed_is p ty t k q v h, even, f) refl

  pub part_read_put : (path val : List ℕ) → part_read p ty (frame_file p t v) path ≡ done val → (c : Part (Value t)) × At path c × (val ≡ value_file c.type c.value)
  unfolding part_read
  part_read_put path val m =
      let (picks, even, _) = outcome_step (steps path) _ val (rw (k, unframed_is p ty t k q v h) at m) in
      go picks even (part p t picks v) refl
    where
      go : (picks : List ℕ) → steps path ≡ done picks → (o : Option (Part (Value t))) → part p t picks v ≡ o → (c : Part (Value t)) × At path c × (val ≡ value_file c.type c.value)
      go picks even none e = absurd (refused_done no_such_part val (sym (part_read_nowhere path picks even e) ∙ m))
      go picks even (some c) e = let a : At path c = record { picks = picks; even = even; leads = e } in (c, a, done_injective val (value_file c.type c.value) (sym m ∙ part_read_is path c a))

  -- PATHS

  -- a path in the file, as it is followed from the value's records
  pub follows : (frame path picks : List ℕ) (f : Found) → frame ≡ frame_file p t v → steps path ≡ done picks → PathLeads p ty frame path f → follow t picks (encode t v ++ []) ≡ some f
  unfolding found
  follows frame path picks f e even l =
      let same : l.type ≡ t = done_injective _ _ (sym l.lowers ∙ k) in
      let file : l.old ≡ value_file t v = done_injective _ _ (sym l.accepted ∙ ap (unframed p ty) e ∙ unframed_is p ty t k q v h) in
      let way : l.picks ≡ picks = done_injective _ _ (sym l.even ∙ even) in
      let x : found t picks (value_file t v) ≡ some f = rw (same, file, way) at l.leads in
      rw (append-nil (encode t v)) (rw (← records_value_file t v q.file.allowed h) x)

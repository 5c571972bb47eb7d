-- Why the part's stretch decides whether a frame matches: reading the part gives the file of the value that stands there, and two values of one type with the same bits are one.
use Rattle.std.specs.Prelude.{◌≡◌, Bool, true, false, List, ℕ, ◌≤◌, ◌<◌, length, get_or, Result, Ok, Err}
use Rattle.std.proofs.Math.Path.{refl}
use Rattle.std.proofs.lemmas.Bool.{false≢true}
use Rattle.std.specs.Result.{is_ok}
use Rattle.std.proofs.Common.{sym, ap, subst, ◌∙◌, arith}
use Rattle.model.specs.Outcome.{done}
use Rattle.model.specs.Bytes.{fill}
use Rattle.model.specs.Types.{Ty}
use Rattle.model.specs.Lowering.{lower}
use Rattle.model.specs.Values.{Value, Valid}
use Rattle.model.specs.ValueFiles.{encode, value_of, value_file}
use Rattle.model.specs.Frames.{after, width, frame, frame_file, unframe}
use Rattle.model.specs.Operations.{lowering, unframed}
use Rattle.model.specs.Conditions.{FrameAccepted}
use Rattle.model.specs.DayFiles.{Matches}
use Rattle.model.proofs.Laws.Outcome.{done_injective, refused_done, outcome_step}
use Rattle.model.proofs.Laws.ValueFiles.{value_written_read, value_accepted}
use Rattle.model.proofs.Laws.FrameFiles.{frame_read_written}
use Rattle.model.proofs.Laws.Operations.{part_allowed}
use Rattle.model.proofs.Laws.Demands.{frame_accepted}
use Rattle.reply.specs.declared.Refusal.{Refusal}
use Rattle.reply.specs.Numbers.{refusal_number}
use Rattle.types.specs.Trees.{tree, type_in}
use Rattle.types.specs.Steps.{Given, given_within}
use Rattle.bits.specs.Bits.{bits_at, Inside, Tells}
use Rattle.bits.specs.Laws.Integers.{bytes_each}
use Rattle.told.specs.Widths.{Wide}
use Rattle.accept.specs.Answers.{Lowered, accepted, outcome_of}
use Rattle.delivery.specs.Values.{value_valid}
use Rattle.part.specs.declared.Spot.{Spot}
use Rattle.part.specs.Laws.Holds.{holding_stands, holding_type}
use Rattle.edit.specs.Opened.{Opened, opened, frame_refused, Arrived, PartTold}
use Rattle.edit.specs.Reads.{part_refused, read_is}
use Rattle.search.specs.Forms.{Says}

-- FRAMES THAT ARE ACCEPTED, AND NOT

module _ {s : List ℕ} (l : Lowered s) {E W : List ℕ} (g : Given 32 false s E 0) (w : Wide s E W) (sb : (i : ℕ) → get_or s i 0 < 256) (fr : List ℕ) (fb : (i : ℕ) → get_or fr i 0 < 256) where
  -- the frame of a value
  pub value_opened : (v : Value (tree 32 s 0)) → unframe after (tree 32 s 0) fr ≡ done v → Opened s E fr
  unfolding accepted type_in
  value_opened v e = opened l fr (Ok (length (encode (tree 32 s 0) v))) (rw e refl) g w sb fb refl

  pub accepted_opened : FrameAccepted after s fr → Opened s E fr
  unfolding unframed type_in
  accepted_opened a =
      let (val, e) = (frame_accepted s (bytes_each s sb) after fr (bytes_each fr fb)).1 a in
      let (t, k, f) = outcome_step (lowering s) _ val e in
      let z : t ≡ tree 32 s 0 = done_injective t (tree 32 s 0) (sym k ∙ l.lowers) in
      let (v, h, _) = outcome_step (unframe after (tree 32 s 0) fr) _ val (rw z at f) in
      value_opened v h

  module _ (c : Result ℕ Refusal) (k : outcome_of c ≡ accepted (type_in s) fr) where
    -- rows 11 and 12
    pub not_opened : {x : Refusal} → c ≡ Err x → Opened s E fr → ⊥
    not_opened h o = refused_done _ _ (sym (frame_refused l fr c k h).1 ∙ o.reads)

-- what `accept` answers tells whether the frame is accepted
pub accepted_told : {s : List ℕ} (l : Lowered s) {E W : List ℕ} (g : Given 32 false s E 0) (w : Wide s E W) (sb : (i : ℕ) → get_or s i 0 < 256) (fr : List ℕ) (fb : (i : ℕ) → get_or fr i 0 < 256) (c : Result ℕ Refusal)
    → outcome_of c ≡ accepted (type_in s) fr → {b : Bool} → b ≡ is_ok c → Tells b (Opened s E fr)
accepted_told l g w sb fr fb (Ok n) k e = record { yes = λ _. opened l fr (Ok n) k g w sb fb refl; no = λ z. absurd (false≢true (sym z ∙ e)) }
accepted_told l g w sb fr fb (Err x) k e = record { yes = λ z. absurd (false≢true (sym e ∙ z)); no = λ _. not_opened l g w sb fr fb (Err x) k refl }

-- A PART

-- values with the same bits are the same
same_frame : (t : Ty) (v w : Value t) → Valid t v → Valid t w → frame after t v ≡ frame after t w → v ≡ w
unfolding frame_file
same_frame t v w h k e = done_injective v w (sym (frame_read_written after t v h) ∙ ap (λ l. unframe after t (fill l)) e ∙ frame_read_written after t w k)

-- where no part is reached, nothing matches
pub no_part : {s E fr path : List ℕ} (val : List ℕ) (r : Result Spot Refusal) → PartTold s E fr path r → ((x : Spot) → r ≡ Ok x → ⊥) → Matches after s fr path val → ⊥
no_part val (Ok x) t n m = absurd (n x refl)
no_part val (Err x) t n m = refused_done (refusal_number x) val (sym (part_refused (t.refused refl)) ∙ m.1)

module _ {s E W fr path : List ℕ} (w : Wide s E W) {o : Opened s E fr} {p d b : ℕ} (a : Arrived s E fr path o p d b) where
  abbrev own : Ty
  own = a.place.type

  abbrev here : Value own
  here = a.place.value

  -- the bits of its stretch
  own_width : get_or W p 0 ≡ width (lower own)
  own_width = w.right d p (holding_stands a.holding) ∙ ap width (holding_type a.holding)

  -- it lies in the frame, and its width in the table
  pub part_inside : (p < length W) × Inside fr b (get_or W p 0) × (get_or W p 0 ≤ 32768)
  part_inside =
      let g = given_within a.holding.given in
      let l = w.long in
      let (i, j) = a.holding.inside in
      (omega arith, (omega (arith, own_width), omega (arith, own_width)), w.small d p (holding_stands a.holding))

  module _ (val : List ℕ) (vb : (i : ℕ) → get_or val i 0 < 256) where
    of_own : {bits : List ℕ} {is : Bool} → Says (tree d s p) val bits is → Says own val bits is
    of_own {bits} {is} = subst (λ t. Says t val bits is) a.holding.same

    -- where a frame matches, the file says the value that stands there
    value_there : Matches after s fr path val → value_of own val ≡ done here
    value_there m =
        let e : value_file own here ≡ val = done_injective _ val (sym (read_is a) ∙ m.1) in
        (value_accepted own (part_allowed after a.picks (tree 32 s 0) o.value a.place o.known.file.allowed a.leads) val here (bytes_each val vb)).1 (a.holding.valid, sym e)

    -- no value is said: no match
    pub not_said : {bits : List ℕ} {is : Bool} → Says (tree d s p) val bits is → is ≡ false → Matches after s fr path val → ⊥
    not_said q z m = (of_own q).none_said z here (value_there m)

    module _ {bits : List ℕ} {is : Bool} (q : Says (tree d s p) val bits is) (z : is ≡ true) where
      -- the same bits: a match
      pub stretch_matches : ((i : ℕ) → get_or s i 0 < 256) → ((i : ℕ) → get_or fr i 0 < 256) → bits_at fr b (get_or W p 0) ≡ bits_at bits 0 (get_or W p 0) → Matches after s fr path val
      stretch_matches sb fb e =
          let (v, r, f) = (of_own q).one z in
          let same : here ≡ v = same_frame own here v a.holding.valid (value_valid own val v r) (sym a.holding.bits ∙ (rw own_width at e) ∙ f) in
          ((frame_accepted s (bytes_each s sb) after fr (bytes_each fr fb)).0 (_, o.reads), read_is a ∙ ap done (ap (value_file own) same ∙ sym (value_written_read own val v (bytes_each val vb) r).1))

      -- and a match the same bits
      pub stretch_same : Matches after s fr path val → bits_at fr b (get_or W p 0) ≡ bits_at bits 0 (get_or W p 0)
      stretch_same m =
          let (v, r, f) = (of_own q).one z in
          let same : here ≡ v = done_injective here v (sym (value_there m) ∙ r) in
          rw own_width (a.holding.bits ∙ ap (frame after own) same ∙ sym f)

      -- other bits: no match
      pub stretch_other : {r : Bool} → Tells r (bits_at fr b (get_or W p 0) ≡ bits_at bits 0 (get_or W p 0)) → r ≡ false → Matches after s fr path val → ⊥
      stretch_other t z m = t.no z (stretch_same m)

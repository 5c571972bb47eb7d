-- What `accept` and `find_part` tell the operations on a part: the value whose frame was accepted and the part that the path leads to, or the row that refuses.
use Rattle.std.proofs.Math.Path.{◌≡◌, refl, sym, ap}
use Rattle.std.proofs.Common.{◌∙◌, arith}
use Rattle.std.specs.Prelude.{Bool, true, false, not, List, map, ℕ, ◌%◌, ◌≤◌, ◌<◌, eqb, length, get_or, Option as Optional, Some, None, Result, Ok, Err}
use Rattle.std.proofs.Math.Option.{Option, none, some}
use Rattle.std.proofs.Math.Nat.{zero-add}
use Rattle.model.specs.Numbers.{path_odd, no_such_part}
use Rattle.model.specs.Outcome.{Outcome, done, refused, ◌>>=◌, ◌>>◌, refuse, or_refuse}
use Rattle.model.specs.Bytes.{records, two_at}
use Rattle.model.proofs.Laws.Outcome.{refused_done}
use Rattle.model.specs.Values.{Value, Valid}
use Rattle.model.specs.ValueFiles.{encode, value_file}
use Rattle.model.specs.Frames.{after, frame, frame_file, unframe}
use Rattle.model.specs.Paths.{Found, found, steps}
use Rattle.model.specs.Parts.{Part, part}
use Rattle.model.specs.Operations.{lowering, unframed}
use Rattle.model.proofs.Laws.Lowering.{Known, known}
use Rattle.model.proofs.Laws.FrameFiles.{frame_written_read}
use Rattle.model.proofs.Laws.Parts.{Lies, part_there}
use Rattle.model.proofs.Laws.FileParts.{Stands}
use Rattle.model.proofs.Laws.Operations.{found_leads}
use Rattle.reply.specs.declared.Refusal.{Refusal}
use Rattle.reply.specs.declared.Refusal.TheVariants.{PathOdd, NoSuchPart}
use Rattle.reply.specs.Numbers.{refusal_number}
use Rattle.types.specs.Trees.{tree, type_in}
use Rattle.types.specs.Steps.{Given}
use Rattle.bits.specs.Laws.Integers.{bytes_each}
use Rattle.told.specs.Widths.{Wide}
use Rattle.rebuild.specs.Forms.{most_records}
use Rattle.accept.specs.Answers.{Lowered, accepted, outcome_of}
use Rattle.accept.specs.Laws.Whole.{few_value}
use Rattle.unframe.specs.Laws.Whole.{read}
use Rattle.delivery.specs.Values.{was_refused, was_done}
use Rattle.part.specs.declared.Spot.{Spot}
use Rattle.part.specs.Forms.{follow, led_to, found_in}
use Rattle.part.specs.Forms as forms
use Rattle.part.specs.Holds.{Holding, Holds, Reached, Leads}
use Rattle.part.specs.Laws.Holds.{whole_holding}
use Rattle.part.specs.Laws.Paths.{follow_leads, path_holding}

-- THE WHOLE

-- a frame that was accepted: the value whose frame it is, which stands there
pub record Opened (s E fr : List ℕ) : Type 0 where
  pub lowers : lowering s ≡ done (tree 32 s 0)
  pub known : Known s (tree 32 s 0)
  pub value : Value (tree 32 s 0)
  pub valid : Valid (tree 32 s 0) value
  pub same : fr ≡ frame_file after (tree 32 s 0) value
  pub reads : unframed after s fr ≡ done (value_file (tree 32 s 0) value)
  pub few : length (encode (tree 32 s 0) value) ≤ most_records
  pub holding : Holding 32 s E 0 fr 0 (tree 32 s 0) value

-- some value stands there
pub opened_holds : {s E fr : List ℕ} → Opened s E fr → Holds 32 s E 0 fr 0
opened_holds {s} o = record { type = tree 32 s 0; value = o.value; holding = o.holding }

module _ {s : List ℕ} (l : Lowered s) (fr : List ℕ) (c : Result ℕ Refusal) (k : outcome_of c ≡ accepted (type_in s) fr) where
  abbrev count : Value (tree 32 s 0) → ℕ
  count v = length (encode (tree 32 s 0) v)

  answers : (unframe after (tree 32 s 0) fr >>= λ v. done (count v)) ≡ outcome_of c
  unfolding accepted type_in
  answers = sym k

  lowers : lowering s ≡ done (tree 32 s 0)
  unfolding type_in
  lowers = l.lowers

  -- rows 11 and 12
  pub frame_refused : {x : Refusal} → c ≡ Err x → (lowering s ≡ done (tree 32 s 0)) × (unframed after s fr ≡ refused (refusal_number x))
  unfolding unframed
  frame_refused {x} h = (lowers, rw (lowers, was_refused count (unframe after (tree 32 s 0) fr) (refusal_number x) (answers ∙ ap outcome_of h)) refl)

  module _ {E W : List ℕ} (g : Given 32 false s E 0) (w : Wide s E W) (a : (i : ℕ) → get_or s i 0 < 256) (b : (i : ℕ) → get_or fr i 0 < 256) where
    opened_value : (v : Value (tree 32 s 0)) → unframe after (tree 32 s 0) fr ≡ done v → Opened s E fr
    unfolding unframed type_in
    opened_value v h =
        let t = tree 32 s 0 in
        let q = known s t (bytes_each s a) lowers in
        let (n, f) = read t fr v h in
        let (o, e) = frame_written_read after t q.lowers fr v (bytes_each fr b) h in
        record {
          lowers = lowers;
          known = q;
          value = v;
          valid = o;
          same = e;
          reads = rw (lowers, h) refl;
          few = few_value g w l fr n v f;
          holding = whole_holding v g w o e;
        }

    -- no row holds
    pub opened : {m : ℕ} → c ≡ Ok m → Opened s E fr
    opened {m} h = let had = was_done count (unframe after (tree 32 s 0) fr) m (answers ∙ ap outcome_of h) in opened_value had.had had.is

-- A PART

-- a path is refused for its length alone
steps_refused : (path : List ℕ) (n : ℕ) → steps path ≡ refused n → n ≡ path_odd
unfolding steps
steps_refused path n h = go (not (eqb (length path % 2) 0)) h
  where
    go : (b : Bool) → (refuse path_odd b >> done (map (λ step. two_at step 0) (records 2 path))) ≡ refused n → n ≡ path_odd
    go true e = let z : path_odd ≡ n = cc in sym z
    go false e = absurd (refused_done n _ (sym e))

-- a path that leads to a part, which stands at record p with d levels from there on, and in the frame from bit b on
pub record Arrived (s E fr path : List ℕ) (o : Opened s E fr) (p d b : ℕ) : Type 0 where
  pub picks : List ℕ
  pub even : steps path ≡ done picks
  pub place : Part (Value (tree 32 s 0))
  pub leads : part after (tree 32 s 0) picks o.value ≡ some place
  pub stands : Stands after (encode (tree 32 s 0)) place (found (tree 32 s 0) picks (value_file (tree 32 s 0) o.value))
  pub holding : Holding d s E p fr b place.type place.value
  pub begins : b ≡ length place.ahead

-- the part is there whatever is put in its place
pub lies : {s E fr path : List ℕ} {o : Opened s E fr} {p d b : ℕ} (a : Arrived s E fr path o p d b) → Lies after (Valid (tree 32 s 0)) (frame after (tree 32 s 0)) o.value a.place
lies {s} {o = o} a = part_there after (tree 32 s 0) a.picks o.value a.place o.valid a.leads

-- where no place was found there is no part, in the value's file neither
module _ {s E fr : List ℕ} (o : Opened s E fr) (q : List ℕ) where
  nowhere : (pl : Optional Spot) → Leads s E (part after (tree 32 s 0) q o.value) 0 pl → (x : Refusal) → Err x ≡ forms.target pl → (found (tree 32 s 0) q (value_file (tree 32 s 0) o.value) ≡ none) × (NoSuchPart ≡ x)
  nowhere None l x j = (rw l at (found_leads after (tree 32 s 0) o.value q o.known.file.allowed o.valid), cc)
  nowhere (Some y) l x j = absurd (let z : ◌≡◌ {A = ℕ} 0 1 = cc in omega arith)

-- a place that was found is a part's
somewhere : {s E : List ℕ} {X : Type 0} {u : Option (Part X)} (pl : Optional Spot) → Leads s E u 0 pl → (x : Spot) → Ok x ≡ forms.target pl → Reached s E u 0 x.at x.level x.bit
somewhere None l x j = absurd (let z : ◌≡◌ {A = ℕ} 0 1 = cc in omega arith)
somewhere (Some y) l x j = let z : x ≡ y = cc in rw z l

module _ {s E W fr : List ℕ} (w : Wide s E W) (o : Opened s E fr) (path : List ℕ) {r : Result Spot Refusal} (e : r ≡ found_in s E W fr path) where
  -- rows 13 and 14, whatever is done with the part
  pub path_refused : (f : Found → Outcome (List ℕ)) {x : Refusal} → r ≡ Err x → (steps path >>= λ q. or_refuse no_such_part (found (tree 32 s 0) q (value_file (tree 32 s 0) o.value)) >>= f) ≡ refused (refusal_number x)
  unfolding found_in
  path_refused f {x} h = go (steps path) refl (sym h ∙ e)
    where
      go : (u : Outcome (List ℕ)) → steps path ≡ u → Err x ≡ led_to u (follow 32 s E W 0 fr 0) → (u >>= λ q. or_refuse no_such_part (found (tree 32 s 0) q (value_file (tree 32 s 0) o.value)) >>= f) ≡ refused (refusal_number x)
      go (refused n) i j = let z : PathOdd ≡ x = cc in ap refused (steps_refused path n i ∙ ap refusal_number z)
      go (done q) i j = let z = nowhere o q (follow 32 s E W 0 fr 0 q) (follow_leads w q o.holding) x j in rw z.0 (ap (λ y. refused (refusal_number y)) z.1)

  pub arrived : {x : Spot} → r ≡ Ok x → Arrived s E fr path o x.at x.level x.bit
  unfolding found_in
  arrived {x} h = go (steps path) refl (sym h ∙ e)
    where
      go : (u : Outcome (List ℕ)) → steps path ≡ u → Ok x ≡ led_to u (follow 32 s E W 0 fr 0) → Arrived s E fr path o x.at x.level x.bit
      go (refused n) i j = absurd (let z : ◌≡◌ {A = ℕ} 0 1 = cc in omega arith)
      go (done q) i j = let r = somewhere (follow 32 s E W 0 fr 0 q) (follow_leads w q o.holding) x j in
          record {
            picks = q;
            even = i;
            place = r.part;
            leads = r.there;
            stands = rw r.there at (found_leads after (tree 32 s 0) o.value q o.known.file.allowed o.valid);
            holding = path_holding o.holding q r;
            begins = r.begins ∙ zero-add (length r.part.ahead);
          }

-- A PART, OR A REFUSAL

-- rows 11 and 12, or rows 13 and 14 whatever is done with the part
pub data PartRefused (s E fr path : List ℕ) (x : Refusal) : Type 0 where
  bad_frame : lowering s ≡ done (tree 32 s 0) → unframed after s fr ≡ refused (refusal_number x) → PartRefused s E fr path x
  bad_path : (o : Opened s E fr) → ((f : Found → Outcome (List ℕ)) → (steps path >>= λ q. or_refuse no_such_part (found (tree 32 s 0) q (value_file (tree 32 s 0) o.value)) >>= f) ≡ refused (refusal_number x)) → PartRefused s E fr path x

-- the frame was accepted and the path leads to a part, or a row refuses
pub record PartTold (s E fr path : List ℕ) (r : Result Spot Refusal) : Type 0 where
  pub reached : {x : Spot} → r ≡ Ok x → (o : Opened s E fr) × Arrived s E fr path o x.at x.level x.bit
  pub refused : {x : Refusal} → r ≡ Err x → PartRefused s E fr path x

module _ {s : List ℕ} (l : Lowered s) {fr : List ℕ} {c : Result ℕ Refusal} (k : outcome_of c ≡ accepted (type_in s) fr) {E : List ℕ} (path : List ℕ) where
  -- the frame is not accepted
  pub frame_told : {x : Refusal} → c ≡ Err x → PartTold s E fr path (Err x)
  frame_told {x} h = record {
    reached = λ z. absurd (let y : ◌≡◌ {A = ℕ} 0 1 = cc in omega arith);
    refused = λ {x = y} z. let (e, f) = frame_refused l fr c k h in let q : x ≡ y = cc in rw (← q) (bad_frame e f);
  }

  -- it is, and the path was followed
  module _ {W : List ℕ} (g : Given 32 false s E 0) (w : Wide s E W) (a : (i : ℕ) → get_or s i 0 < 256) (b : (i : ℕ) → get_or fr i 0 < 256) {m : ℕ} (h : c ≡ Ok m) where
    pub path_told : {r : Result Spot Refusal} → r ≡ found_in s E W fr path → PartTold s E fr path r
    path_told e = let o = opened l fr c k g w a b h in record {
      reached = λ j. (o, arrived w o path e j);
      refused = λ j. bad_path o (λ f. path_refused w o path e f j);
    }

-- What `read_part` knows at each of its answers: the value and the part as `Opened` tells them, and the number of the part's records, which are some of the whole's.
use Rattle.std.specs.Prelude.{◌≡◌, refl, List, ◌++◌, ℕ, ◌+◌, ◌*◌, ◌≤◌, ◌<◌, length, Ok, Err}
use Rattle.std.proofs.Common.{sym, ap, subst, ◌∙◌, arith, Fits, length-append}
use Rattle.std.proofs.Math.Option.{some, some-injective}
use Rattle.std.specs.Int.{w64}
use Rattle.model.specs.Outcome.{done, refused}
use Rattle.model.specs.ValueFiles.{encode, value_file}
use Rattle.model.specs.Frames.{after}
use Rattle.model.specs.Paths.{part_records}
use Rattle.model.specs.Operations.{part_read}
use Rattle.model.proofs.Laws.ValueFiles.{length_value_file}
use Rattle.model.proofs.Laws.Operations.{part_file}
use Rattle.reply.specs.declared.Refusal.{Refusal}
use Rattle.reply.specs.declared.Refusal.TheVariants.{NoRoom}
use Rattle.reply.specs.Numbers.{refusal_number}
use Rattle.types.specs.Trees.{tree}
use Rattle.structural.specs.Writing.{Wrote}
use Rattle.rebuild.specs.Forms.{most_records}
use Rattle.record.specs.Marks.{written}
use Rattle.accept.specs.Forms.{seen}
use Rattle.accept.specs.Answers.{Counted}
use Rattle.unframe.specs.Forms.{standing, Ready, Placed}
use Rattle.delivery.specs.Delivering.{Delivers, deliver_refusal, deliver_no_room, deliver_result}
use Rattle.part.specs.Laws.Holds.{holding_seen, holding_standing}
use Rattle.edit.specs.Opened.{Opened, Arrived, lies, PartRefused, bad_frame, bad_path}

-- rows 11 to 14
pub part_refused : {s E fr path : List ℕ} {x : Refusal} → PartRefused s E fr path x → part_read after s fr path ≡ refused (refusal_number x)
unfolding part_read
part_refused (bad_frame e f) = rw (e, f) refl
part_refused {s} (bad_path o f) = rw (o.lowers, o.reads) (f (λ f. done (part_records f (value_file (tree 32 s 0) o.value))))

pub read_bad_part : {s E fr path : List ℕ} {x : Refusal} → PartRefused s E fr path x → (O : List ℕ) → Delivers (part_read after s fr path) O O (Err x)
read_bad_part {s} {E} {fr} {path} {x} p O = deliver_refusal (part_read after s fr path) O x (part_refused p)

module _ {s E fr path : List ℕ} {o : Opened s E fr} {p d b : ℕ} (a : Arrived s E fr path o p d b) where
  -- the part's records are no more than the whole's
  few : length (encode a.place.type a.place.value) ≤ most_records
  few =
      let t = tree 32 s 0 in
      let st = a.stands in
      let own = encode a.place.type a.place.value in
      let e : length (encode t o.value) ≡ length st.front + length own + length st.back =
      ap length (ap (encode t) (sym (lies a).same) ∙ st.splits a.place.value) ∙ length-append (st.front ++ own) st.back ∙ ap (λ n. n + length st.back) (length-append st.front own) in
      omega (arith, o.few)

  pub part_counted : Counted (seen d s p fr b)
  part_counted = record { count = length (encode a.place.type a.place.value); there = holding_seen a.holding; few = few }

  abbrev file : List ℕ
  file = value_file a.place.type a.place.value

  pub read_is : part_read after s fr path ≡ done file
  unfolding part_read
  read_is = rw (o.lowers, o.reads, a.even, a.stands.leads) (ap done (part_file after (tree 32 s 0) o.value a.place (lies a) _ a.stands))

  -- n is what was counted
  module _ {n : ℕ} (k : seen d s p fr b ≡ some n) where
    counted : length (encode a.place.type a.place.value) ≡ n
    counted = some-injective _ _ (sym (holding_seen a.holding) ∙ k)

    file_length : length file ≡ n * 36
    file_length = length_value_file a.place.type a.place.value ∙ ap (λ n. n * 36) counted

    pub part_fits : Fits w64 (n * 36)
    part_fits = omega (arith, counted, few)

    pub read_no_room : {O : List ℕ} → length O < n * 36 → Delivers (part_read after s fr path) O O (Err NoRoom)
    read_no_room {O} l = deliver_no_room (part_read after s fr path) O file read_is (omega (arith, file_length))

    pub read_ready : (O : List ℕ) → n * 36 ≤ length O → Ready (standing d s p fr b) O
    unfolding value_file written
    read_ready O l = record { recs = encode a.place.type a.place.value; there = holding_standing a.holding; room = omega (arith, file_length) }

    pub read_done : {O O' : List ℕ} {i : ℕ} → n * 36 ≤ length O → Placed (standing d s p fr b) O O' i → Delivers (part_read after s fr path) O O' (Ok i)
    unfolding value_file written
    read_done {O} {O'} {i} l w =
        let e = some-injective _ _ (sym w.there ∙ holding_standing a.holding) in
        deliver_result (part_read after s fr path) O O' file i read_is (omega (arith, file_length)) (subst (λ rs. Wrote (written rs) O O' i) e w.wrote)

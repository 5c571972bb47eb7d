-- How an outcome is delivered: what an entry answers and leaves in its buffer, from what it knows where it returns.
use Rattle.std.specs.Prelude.{◌≡◌, refl, List, ℕ, ◌<◌, ◌≤◌, length, Result, Ok, Err}
use Rattle.std.proofs.Common.{lt-ltb, le-ltb}
use Rattle.model.specs.Outcome.{Outcome, done, refused}
use Rattle.model.specs.Operations.{delivered}
use Rattle.reply.specs.declared.Refusal.{Refusal}
use Rattle.reply.specs.declared.Refusal.TheVariants.{NoRoom}
use Rattle.reply.specs.Numbers.{refusal_number, number_of, length_of}
use Rattle.structural.specs.Writing.{put, Wrote}

-- the entry's reply r, with its buffer O that became O', is the outcome o delivered
abbrev pub Delivers : Outcome (List ℕ) → List ℕ → List ℕ → Result ℕ Refusal → Type 0
Delivers o O O' r = (number_of r, length_of r, O') ≡ delivered o O

-- the outcome is refused, and the buffer is as it was
pub deliver_refusal : (o : Outcome (List ℕ)) (O : List ℕ) (x : Refusal) → o ≡ refused (refusal_number x) → Delivers o O O (Err x)
unfolding delivered
deliver_refusal o O x h = rw h refl

-- the result is longer than the buffer, which is as it was
pub deliver_no_room : (o : Outcome (List ℕ)) (O xs : List ℕ) → o ≡ done xs → length O < length xs → Delivers o O O (Err NoRoom)
unfolding delivered
deliver_no_room o O xs h l = rw h (rw (lt-ltb (length O) (length xs) l, delivered) refl)

-- the result was written
pub deliver_result : (o : Outcome (List ℕ)) (O O' xs : List ℕ) (n : ℕ) → o ≡ done xs → length xs ≤ length O → Wrote xs O O' n → Delivers o O O' (Ok n)
unfolding delivered put
deliver_result o O O' xs n h l w = rw (h, w.len, w.out) (rw (le-ltb (length O) (length xs) l, delivered) refl)

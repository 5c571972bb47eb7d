-- `reach_part` tells whether the frame is accepted and where the part stands, `seek_once` whether the file says a value of its type and what its bits are, `same_bits` whether they stand there.
-- Each answer is a law of `Looks`. Assumes nothing.
use mathlib.Core.Path.{◌≡◌, sym, ◌∙◌}
use lib.ListN.{length}
use borrow.Author.Rules.{rules}
use native.Mathlib.Omega.{arith}
use Rattle.std.proofs.lemmas.Bool.{false≢true}
use Rattle.search.specs.Laws.Looks.{no_part, part_inside, not_said, stretch_matches, stretch_other}
use Rattle.search.proofs.matches.Goals as goal

pub returns-in_default-clause-told : goal.returns-in_default-clause-told
returns-in_default-clause-told c = record { yes = λ z. absurd (false≢true z); no = λ _. no_part c.args.value.now c.reach_part.result c.reach_part.ensures c.in_default.not-Ok }

pub width-requires : goal.width-requires
width-requires c = let (_, part) = c.reach_part.ensures.reached c.in-Ok.is in (part_inside c.requires.wide part).0

pub same_bits-requires : goal.same_bits-requires
same_bits-requires c =
    let (_, part) = c.reach_part.ensures.reached c.in-Ok.is in
    let (_, i, j) = part_inside c.requires.wide part in
    let l : length c.seek_once.new.sought.bits ≡ 4096 = search rules in
    rw c.width.ensures (i, (omega arith, omega arith))

pub returns-then-seek_once-clause-told : goal.returns-then-seek_once-clause-told
returns-then-seek_once-clause-told c =
    let (_, part) = c.reach_part.ensures.reached c.in-Ok.is in
    let said = c.seek_once.ensures.says in
    record {
      yes = λ z. stretch_matches c.requires.wide part _ (λ i. (c.type_inv.value i).fits) said c.if-seek_once.true c.type_is_bytes.ensures (λ i. (c.type_inv.frame i).fits) (rw c.width.ensures at (c.same_bits.ensures.yes z));
      no = stretch_other c.requires.wide part _ (λ i. (c.type_inv.value i).fits) said c.if-seek_once.true (rw c.width.ensures at c.same_bits.ensures);
    }

pub returns-else-seek_once-clause-told : goal.returns-else-seek_once-clause-told
returns-else-seek_once-clause-told c =
    let (_, part) = c.reach_part.ensures.reached c.in-Ok.is in
    record {
      yes = λ z. absurd (false≢true (sym c.if-seek_once.false ∙ z));
      no = not_said c.requires.wide part _ (λ i. (c.type_inv.value i).fits) c.seek_once.ensures.says;
    }

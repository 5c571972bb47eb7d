use Rattle.std.proofs.Common.{rules, ◌≡◌, refl, sym, ◌∙◌, arith, length, ◌/◌, eq-eqb, ne_eqb, le-leb, Err}
use Rattle.types.specs.Table.{whole, type_answer}
use Rattle.types.specs.Tables.{walked_end}
use Rattle.types.specs.Unique.{all_ends}
use Rattle.types.specs.Entries.{ends_length}
use Rattle.types.proofs.check_type.Goals.{After-walk_type}
use Rattle.types.proofs.check_type.Goals as goal

-- the walk decides about a file of a fair length
by_walk : (c : After-walk_type) → type_answer c.args.ty.now ≡ whole (length c.args.ty.now / 4) c.walk_type.result
unfolding type_answer
by_walk c = simp (ne_eqb _ _ c.if-n-eq0.false, eq-eqb _ _ c.if-n-ne0.false, le-leb (length c.args.ty.now / 4) 1024 (omega arith), c.walk_type.ensures.walked.answer)

pub returns-in_err-walk_type : goal.returns-in_err-walk_type
unfolding whole
returns-in_err-walk_type c =
    let z : c.from_residual.result ≡ Err c.in_err-walk_type.field-0.0 = search rules in
    record {
      checked = record { answer = z ∙ sym (by_walk (goal.at.returns-in_err-walk_type c).After-walk_type ∙ rw c.in_err-walk_type.was refl); table = rw z tt };
      kept = c.walk_type.ensures.kept;
    }

pub returns-then-branch-records : goal.returns-then-branch-records
unfolding whole
returns-then-branch-records c = record {
  checked = record {
    answer = sym (by_walk (goal.at.returns-then-branch-records c).After-walk_type ∙ rw (c.in_ok-walk_type.was, ne_eqb _ _ c.if-branch-records.true) refl);
    table = tt;
  };
  kept = c.walk_type.ensures.kept;
}

pub returns : goal.returns
unfolding whole
returns c = record {
  checked = record {
    answer = sym (by_walk (goal.at.returns c).After-walk_type ∙ rw (c.in_ok-walk_type.was, eq-eqb _ _ c.if-branch-records.false, c.if-branch-records.false) refl);
    table = all_ends _ _ _ _ (walked_end c.walk_type.ensures.walked c.in_ok-walk_type.was) c.if-branch-records.false (omega (arith, c.walk_type.auto.entries, c.requires, ends_length c.walk_type.new.entries));
  };
  kept = c.walk_type.ensures.kept;
}

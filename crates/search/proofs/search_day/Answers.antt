-- Rows 18, 19 and 13 are the tests, in their order. Behind them `fixed_part` tells whether the part stands at one place in all frames, and the loop of that case tells the rest: each answer is one law of `Days`. Assumes nothing.
use mathlib.Core.Path.{sym, ◌∙◌}
use native.Mathlib.Omega.{arith}
use Rattle.search.specs.Laws.Days.{sized, sample_held, first_width, day_18, day_19, day_13, day_good, fixed_given, fixed_inside, led_ended, fixed_none, fixed_ended}
use Rattle.search.proofs.search_day.Goals as goal

pub width-requires : goal.width-requires
width-requires c = (first_width c.requires.lowered c.requires.given c.requires.wide c.type_is_bytes.ensures).0

pub returns-then-size-eq0 : goal.returns-then-size-eq0
returns-then-size-eq0 c = day_18 c.requires.lowered c.requires.given c.requires.wide c.type_is_bytes.ensures _ _ _ (sized c.div_ceil-size.ensures c.width.ensures) c.if-size-eq0.true

pub returns-then-day-size-ne0 : goal.returns-then-day-size-ne0
returns-then-day-size-ne0 c = day_19 c.requires.lowered c.requires.given c.requires.wide c.type_is_bytes.ensures _ _ _ (sized c.div_ceil-size.ensures c.width.ensures) c.if-size-eq0.false c.if-day-size-ne0.true

pub returns-then-path-ne0 : goal.returns-then-path-ne0
returns-then-path-ne0 c = day_13 c.requires.lowered c.requires.given c.requires.wide c.type_is_bytes.ensures _ _ _ (sized c.div_ceil-size.ensures c.width.ensures) c.if-size-eq0.false c.if-day-size-ne0.false c.if-path-ne0.true

pub fixed_part-requires : goal.fixed_part-requires
fixed_part-requires c = record { held = sample_held c.requires.lowered c.requires.given c.requires.wide c.type_is_bytes.ensures; wide = c.requires.wide }

pub seek-requires : goal.seek-requires
seek-requires c =
    let place = sym c.in-Some.is ∙ c.fixed_part.ensures in
    record { given = fixed_given c.requires.lowered c.requires.given c.requires.wide c.type_is_bytes.ensures _ c.if-path-ne0.false place; wide = c.requires.wide }

pub width-n-requires : goal.width-n-requires
width-n-requires c =
    let place = sym c.in-Some.is ∙ c.fixed_part.ensures in
    (fixed_inside c.requires.lowered c.requires.given c.requires.wide c.type_is_bytes.ensures _ c.if-path-ne0.false place (sized c.div_ceil-size.ensures c.width.ensures)).0

pub search_fixed-requires : goal.search_fixed-requires
search_fixed-requires c =
    let place = sym c.in-Some.is ∙ c.fixed_part.ensures in
    let n = c.if-size-eq0.false in
    let l = (first_width c.requires.lowered c.requires.given c.requires.wide c.type_is_bytes.ensures).1 in
    let e = sized c.div_ceil-size.ensures c.width.ensures in
    let (_, i, j) = fixed_inside c.requires.lowered c.requires.given c.requires.wide c.type_is_bytes.ensures _ c.if-path-ne0.false place e in
    record { given = c.requires.given; wide = c.requires.wide; lowered = c.requires.lowered; le_size = (omega arith, omega arith); stretch = rw c.width-n.ensures (i, j) }

pub returns : goal.returns
returns c =
    let good = day_good c.requires.lowered c.requires.given c.requires.wide c.type_is_bytes.ensures _ _ c.args.value.now (sized c.div_ceil-size.ensures c.width.ensures) c.if-size-eq0.false c.if-day-size-ne0.false c.if-path-ne0.false in
    let place = sym c.in-Some.is ∙ c.fixed_part.ensures in
    fixed_ended c.requires.lowered c.requires.given c.requires.wide c.type_is_bytes.ensures _ _ _ (λ i. (c.type_inv.day i).fits) (λ i. (c.type_inv.value i).fits) good c.if-path-ne0.false place c.seek.ensures c.if-not-seek.false c.search_fixed.result (rw c.width-n.ensures at c.search_fixed.ensures)

pub returns-in_default : goal.returns-in_default
returns-in_default c =
    let good = day_good c.requires.lowered c.requires.given c.requires.wide c.type_is_bytes.ensures _ _ c.args.value.now (sized c.div_ceil-size.ensures c.width.ensures) c.if-size-eq0.false c.if-day-size-ne0.false c.if-path-ne0.false in
    led_ended c.requires.lowered c.requires.given c.requires.wide c.type_is_bytes.ensures _ _ _ (λ i. (c.type_inv.day i).fits) (λ i. (c.type_inv.value i).fits) good c.search_led.result c.search_led.ensures

pub returns-then-not-seek : goal.returns-then-not-seek
returns-then-not-seek c =
    let good = day_good c.requires.lowered c.requires.given c.requires.wide c.type_is_bytes.ensures _ _ c.args.value.now (sized c.div_ceil-size.ensures c.width.ensures) c.if-size-eq0.false c.if-day-size-ne0.false c.if-path-ne0.false in
    let place = sym c.in-Some.is ∙ c.fixed_part.ensures in
    fixed_none c.requires.lowered c.requires.given c.requires.wide c.type_is_bytes.ensures _ _ _ (λ i. (c.type_inv.day i).fits) (λ i. (c.type_inv.value i).fits) good c.if-path-ne0.false place c.seek.ensures c.if-not-seek.true

-- The whole frame: what the walk and the tests of length and tail answer is what the model's `unframe` says (rows 11 and 12).
use Rattle.std.specs.Prelude.{◌≡◌, refl, Bool, true, false, not, ◌||◌, List, ℕ, ◌+◌, ◌-◌, ◌*◌, ◌/◌, ◌≤◌, ◌<◌, get_or, take, drop, Option as Optional, Some, None, Ok, Err}
use Rattle.std.proofs.Common.{sym, ◌∙◌, arith, Fits, length-take, length-drop, take_all, eq-eqb, ne_eqb}
use Rattle.std.proofs.Math.Path.{ap}
use Rattle.std.proofs.Math.Bool.{not-not}
use Rattle.std.proofs.Math.Option.{Option, none, some}
use Rattle.std.specs.Int.{w64, div_ceil}
use Rattle.std.specs.Option.{ok_or}
use Rattle.std.proofs.Math.ListN.{length}
use Rattle.reply.specs.declared.Refusal.TheVariants.{FrameLength, StrayBit}
use Rattle.model.specs.Numbers.{frame_length, stray_bit, most_shape_records}
use Rattle.model.specs.Outcome.{Outcome, done, refused, refuse, or_refuse, ◌>>=◌, ◌>>◌}
use Rattle.model.specs.Options.{any, map_o}
use Rattle.model.specs.Bytes.{bits_of, bytes_for}
use Rattle.model.specs.Structural.{SValue, type_records}
use Rattle.model.specs.Types.{Ty}
use Rattle.model.specs.Lowering.{lower}
use Rattle.model.specs.Values.{Value}
use Rattle.model.specs.ShapeFiles.{shape_file}
use Rattle.model.specs.Reconstruct.{reconstruct}
use Rattle.model.specs.ValueFiles.{encode}
use Rattle.model.specs.Frames.{width, from_bits, padding, unframe}
use Rattle.model.proofs.Laws.Options.{map_o_map_o}
use Rattle.model.proofs.Laws.Lowering.{small, lowers_not_large}
use Rattle.model.proofs.Laws.Bytes.{length_bits_of}
use Rattle.model.proofs.Laws.Frames.{from_bits_belongs}
use Rattle.model.proofs.Laws.Sizes.{length_type_records, shape_size}
use Rattle.model.proofs.Laws.ShapeFiles.{shape_read_written}
use Rattle.model.proofs.Laws.Spots.{surplus}
use Rattle.types.specs.Trees.{tree, type_in}
use Rattle.types.specs.Lows.{low}
use Rattle.types.specs.Steps.{Given}
use Rattle.structural.specs.Forms.{standing}
use Rattle.structural.proofs.Laws.Forms.{stands, standing_is}
use Rattle.bits.specs.Bits.{bits_at, Inside}
use Rattle.record.specs.Trees.{value_in, part}
use Rattle.told.specs.Widths.{Wide}
use Rattle.told.specs.Laws.Widths.{width_there}
use Rattle.record.specs.Laws.Products.{part_is}
use Rattle.rebuild.specs.Forms.{most_records}
use Rattle.rebuild.specs.Laws.Few.{few_records}
use Rattle.rebuild.specs.Laws.Model.{value_records_reconstruct}
use Rattle.rebuild.specs.Laws.Model as model
use Rattle.accept.specs.Forms.{place, shape_at, stray_at, unless, seen}
use Rattle.accept.specs.Answers.{cut, answer, count_of, Lowered, accepted, outcome_of}
use Rattle.accept.specs.Laws.Bits.{any_both}

-- ROWS

-- what is seen, as an outcome
abbrev outcome : Option ℕ → Outcome ℕ
outcome none = refused stray_bit
outcome (some k) = done k

-- row 11
wrong_length : (t : Ty) (fr : List ℕ) → (length fr ≡ bytes_for (width (lower t)) → ⊥) → refused frame_length ≡ accepted t fr
unfolding accepted unframe
wrong_length t fr h = rw (ne_eqb (length fr) (bytes_for (width (lower t))) h) refl

module _ (t : Ty) (fr : List ℕ) (n : length fr ≡ bytes_for (width (lower t))) where
  abbrev tail : Bool
  tail = any (drop (width (lower t)) (bits_of fr))

  abbrev pads : Bool
  pads = any (padding place (lower t) (take (width (lower t)) (bits_of fr)))

  abbrev said : Option (Value t)
  said = reconstruct t (from_bits place (lower t) (take (width (lower t)) (bits_of fr)))

  -- of a frame of the right length
  right_length : accepted t fr ≡ ((refuse stray_bit (pads || tail) >> or_refuse stray_bit said) >>= (λ v. done (length (encode t v))))
  unfolding accepted unframe
  right_length =
      rw (eq-eqb (length fr) (bytes_for (width (lower t))) n)
      (ap (λ b. (refuse stray_bit b >> or_refuse stray_bit said) >>= (λ v. done (length (encode t v)))) (any_both (padding place (lower t) (take (width (lower t)) (bits_of fr))) (drop (width (lower t)) (bits_of fr))))

  -- row 12, for the tail
  tail_stray : tail ≡ true → refused stray_bit ≡ accepted t fr
  tail_stray e = sym (right_length ∙ go pads tail e)
    where
      go : (a b : Bool) → b ≡ true → ((refuse stray_bit (a || b) >> or_refuse stray_bit said) >>= (λ v. done (length (encode t v)))) ≡ refused stray_bit
      go true b e = refl
      go false true e = refl
      go false false e = absurd (let z : ◌≡◌ {A = ℕ} 0 1 = cc in omega arith)

  -- where the tail is zeros the padding and the shape decide
  tail_clear : tail ≡ false → accepted t fr ≡ outcome (unless pads (map_o (λ v. length (encode t v)) said))
  tail_clear e = right_length ∙ go pads tail said e
    where
      go : (a b : Bool) (o : Option (Value t)) → b ≡ false → ((refuse stray_bit (a || b) >> or_refuse stray_bit o) >>= (λ v. done (length (encode t v)))) ≡ outcome (unless a (map_o (λ v. length (encode t v)) o))
      go true b o e = refl
      go false true o e = absurd (let z : ◌≡◌ {A = ℕ} 0 1 = cc in omega arith)
      go false false none e = refl
      go false false (some v) e = refl

-- THE FILE

-- the bytes for so many bits
pub rounded : {size : ℕ} (w : ℕ) → size ≡ div_ceil w 8 → size ≡ (w + 7) / 8
rounded w e = omega arith

module _ {s E W : List ℕ} (g : Given 32 false s E 0) (u : Wide s E W) where
  type_is : standing 32 s 0 ≡ lower (type_in s)
  unfolding type_in low
  type_is = standing_is g

  whole_width : get_or W 0 0 ≡ width (lower (type_in s))
  whole_width = u.right 32 0 (stands g) ∙ ap width type_is

  -- what is seen of the whole frame
  whole_seen : (fr : List ℕ) → seen 32 s 0 fr 0 ≡ unless (any (padding place (lower (type_in s)) (take (width (lower (type_in s))) (bits_of fr)))) (map_o (λ v. length (encode (type_in s) v)) (reconstruct (type_in s) (from_bits place (lower (type_in s)) (take (width (lower (type_in s))) (bits_of fr)))))
  unfolding seen stray_at shape_at type_in value_in
  whole_seen fr =
      let t = tree 32 s 0 in
      ap (λ a. unless (stray_at a fr 0) (map_o length (part 32 s 0 (shape_at a fr 0)))) type_is
      ∙ ap (λ o. unless (stray_at (lower t) fr 0) (map_o length o)) (part_is g (shape_at (lower t) fr 0))
      ∙ ap (unless (stray_at (lower t) fr 0)) (map_o_map_o (encode t) length (reconstruct t (shape_at (lower t) fr 0)))

  -- A VALUE'S RECORDS are few, so that none is lost in counting

  few_nodes : Lowered s → length (type_records (lower (type_in s))) ≤ most_shape_records
  few_nodes l = small (type_in s) (lowers_not_large s (type_in s) l.lowers)

  module _ (l : Lowered s) (fr : List ℕ) (n : length fr ≡ bytes_for (width (lower (type_in s)))) where
    abbrev own : List Bool
    own = take (width (lower (type_in s))) (bits_of fr)

    abbrev tree_of : SValue
    tree_of = from_bits place (lower (type_in s)) own

    few_shape : length (shape_file tree_of) ≤ most_shape_records
    few_shape =
        let e : length own ≡ width (lower (type_in s)) = length-take (width (lower (type_in s))) (bits_of fr) ∙ omega (arith, length_bits_of fr) in
        omega (arith, few_nodes l, length_type_records (lower (type_in s)), shape_size (from_bits_belongs place (lower (type_in s)) own e))

    pub few_value : (v : Value (type_in s)) → reconstruct (type_in s) tree_of ≡ some v → length (encode (type_in s) v) ≤ most_records
    few_value v e =
        few_records s (shape_file tree_of) (length (encode (type_in s) v)) (surplus (type_in s) tree_of) few_shape
        (value_records_reconstruct (type_in s) (shape_file tree_of) tree_of (shape_read_written tree_of few_shape) ∙ ap (model.known (type_in s) (surplus (type_in s) tree_of)) e)

    -- so what was counted is exact
    counted : (k : ℕ) → Some k ≡ answer (seen 32 s 0 fr 0) → outcome (seen 32 s 0 fr 0) ≡ done k
    counted k e = rw (whole_seen fr) (go (any (padding place (lower (type_in s)) own)) (reconstruct (type_in s) tree_of) few_value (e ∙ ap answer (whole_seen fr)))
      where
        go : (a : Bool) (o : Option (Value (type_in s))) → ((v : Value (type_in s)) → o ≡ some v → length (encode (type_in s) v) ≤ most_records) → Some k ≡ answer (unless a (map_o (λ v. length (encode (type_in s) v)) o)) → outcome (unless a (map_o (λ v. length (encode (type_in s) v)) o)) ≡ done k
        go true o f e = absurd (let z : ◌≡◌ {A = ℕ} 0 1 = cc in omega arith)
        go false none f e = absurd (let z : ◌≡◌ {A = ℕ} 0 1 = cc in omega arith)
        go false (some v) f e = let i : k ≡ cut (length (encode (type_in s) v)) = ap count_of e in ap done (omega (arith, f v refl))

  -- AS THE CODE ASKS IT: w is the width that the table tells of the first record, n is the frame's length

  pub first_there : 0 < length W
  first_there = width_there (stands g) u

  module _ {w : ℕ} (a : w ≡ get_or W 0 0) where
    wide_is : w ≡ width (lower (type_in s))
    wide_is = a ∙ whole_width

    pub bits_fit : (n : ℕ) → n ≡ (w + 7) / 8 → Fits w64 (n * 8)
    bits_fit n e = let l = u.small 32 0 (stands g) in omega (arith, a)

    module _ (fr : List ℕ) (n : ℕ) (h : n ≡ length fr) where
      pub other_length : (n ≡ (w + 7) / 8 → ⊥) → outcome_of (Err FrameLength) ≡ accepted (type_in s) fr
      other_length f = wrong_length (type_in s) fr (λ e. f (h ∙ e ∙ ap bytes_for (sym wide_is)))

      module _ (e : n ≡ (w + 7) / 8) where
        same_length : length fr ≡ bytes_for (width (lower (type_in s)))
        same_length = sym h ∙ e ∙ ap bytes_for wide_is

        pub tail_run : Inside fr w (n * 8 - w)
        tail_run = let l = u.small 32 0 (stands g) in (omega (arith, a), omega (arith, a))

        pub whole_inside : Inside fr 0 (width (standing 32 s 0))
        whole_inside = let l = u.small 32 0 (stands g) in let w = u.right 32 0 (stands g) in (omega (arith, a), omega (arith, a))

        module _ (z : Bool) (c : z ≡ not (any (bits_at fr w (n * 8 - w)))) where
          tail_is : z ≡ not (tail (type_in s) fr same_length)
          tail_is =
              let w = width (lower (type_in s)) in
              let i : length (drop w (bits_of fr)) ≤ n * 8 - w = omega (arith, length-drop w (bits_of fr), length_bits_of fr) in
              c ∙ ap (λ w. not (any (bits_at fr w (n * 8 - w)))) wide_is ∙ ap (λ l. not (any l)) (take_all (n * 8 - w) (drop w (bits_of fr)) i)

          tail_was : (x : Bool) → not z ≡ x → tail (type_in s) fr same_length ≡ x
          tail_was x k = sym (not-not (tail (type_in s) fr same_length)) ∙ ap not (sym tail_is) ∙ k

          pub stray_tail : not z ≡ true → outcome_of (Err StrayBit) ≡ accepted (type_in s) fr
          stray_tail k = tail_stray (type_in s) fr same_length (tail_was true k)

          module _ (k : not z ≡ false) (x : Optional ℕ) (i : x ≡ answer (seen 32 s 0 fr 0)) where
            said_is : accepted (type_in s) fr ≡ outcome (seen 32 s 0 fr 0)
            said_is = tail_clear (type_in s) fr same_length (tail_was false k) ∙ ap outcome (sym (whole_seen fr))

            pub stray_inside : x ≡ None → outcome_of (Err StrayBit) ≡ accepted (type_in s) fr
            stray_inside j = sym (said_is ∙ go (seen 32 s 0 fr 0) (sym j ∙ i))
              where
                go : (o : Option ℕ) → None ≡ answer o → outcome o ≡ refused stray_bit
                go none e = refl
                go (some m) e = absurd (let z : ◌≡◌ {A = ℕ} 0 1 = cc in omega (arith, a))

            pub records_seen : (m : ℕ) → Lowered s → x ≡ Some m → outcome_of (Ok m) ≡ accepted (type_in s) fr
            records_seen m l j = sym (said_is ∙ counted l fr same_length m (sym j ∙ i))

            pub frame_told : Lowered s → outcome_of (ok_or x StrayBit) ≡ accepted (type_in s) fr
            frame_told l = go x refl
              where
                go : (y : Optional ℕ) → x ≡ y → outcome_of (ok_or y StrayBit) ≡ accepted (type_in s) fr
                go None j = stray_inside j
                go (Some m) j = records_seen m l j

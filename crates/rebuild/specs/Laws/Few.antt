-- The records of whatever is read at a record of a type file fit: there are at most 33 for each of the 65,536 of a shape.
use Rattle.std.specs.Prelude.{◌≡◌, refl, Bool, List, length, Option, Some, None}
use Rattle.std.proofs.Common.{sym, ap, subst, mul-le-mul, arith}
use Rattle.std.proofs.Math.Bool.{true, false}
use Prim.Native.Nat.{ℕ, zero, suc, ◌+◌, ◌*◌, ◌≤◌}
use Rattle.num.specs.declared.NonZeroPow2Usize.{NonZeroPow2Usize}
use Rattle.types.specs.Record.{rec_at}
use Rattle.types.specs.Trees.{tree, type_in}
use Rattle.types.specs.declared.forms.Parts.{Parts}
use Rattle.types.specs.declared.forms.Parts.TheVariants.{Types}
use Rattle.rebuild.specs.declared.Read.{Read}
use Rattle.rebuild.specs.Kinds.{reads}
use Rattle.rebuild.specs.Reads.{Reader, reader, records_in, value_records}
use Rattle.structural.specs.Forms.{is_variant}
use Rattle.rebuild.specs.Forms.{most_records, Few, Limits, count_of, surplus_of, skip, reading, standing, bits_of, row, balanced, chosen, block_of, listed}
use Rattle.rebuild.specs.Laws.Small.{Within, Fits, Small, Smalls, smalls_replicate, products_small, choices_small, bits_small, blocks_small, lists_small, tree_small, treev_small}

module _ (sh : List ℕ) (d : ℕ) (s : List ℕ) where
  reading_small : (v : Bool) (p : ℕ) → Small sh (suc d) (reading (reader sh) d v s p)
  unfolding reading
  reading_small false p = tree_small sh s d p
  reading_small true p = treev_small sh s d p

  standing_small : (p : ℕ) → Small sh (suc d) (standing (reader sh) d s p)
  unfolding standing
  standing_small p = reading_small (is_variant (rec_at s p)) p

  row_small : (k : Parts) (E : List ℕ) (n p : ℕ) → Smalls sh (suc d) (row (reader sh) k d s E n p)
  unfolding row
  row_small k E zero p = tt
  row_small k E (suc n) p = (standing_small p, row_small k E n (skip k E 1 p))

few_within : (z d p e n k : ℕ) → z ≤ 65536 → d ≤ 32 → Within z (suc d) p e n k → Few n k
few_within z d p e n k h l w =
    let i = w.inside in
    let u : suc d ≤ 33 = omega arith in
    let v : e ≤ 65536 = omega arith in
    let m : suc d * e ≤ 33 * 65536 = mul-le-mul u v in
    let f = w.few in
    let j = w.part in
    record { records = last (suc d * p) (suc d * e) n f m; surplus = omega arith }
  where
    last : (a b n : ℕ) → n + a ≤ b → b ≤ 33 * 65536 → n ≤ most_records
    last a b n h l = omega arith

few_fits : (z d p : ℕ) (x : Option Read) → z ≤ 65536 → d ≤ 32 → Fits z (suc d) p x → Few (count_of x) (surplus_of x)
few_fits z d p (Some r) h l w = few_within z d p r.next r.records r.surplus h l w
few_fits z d p None h l w = record { records = omega arith; surplus = omega arith }

few_read : (sh : List ℕ) (d p : ℕ) (x : Option Read) → Limits sh d → (r : Reader) → Small sh (suc d) r → x ≡ r p → Few (count_of x) (surplus_of x)
few_read sh d p x l r h e = few_fits (length sh) d p x l.short l.low (subst (λ y. Fits (length sh) (suc d) p y) (sym e) (h.fits p))

-- numbers that tell answers apart
abbrev pub count_in : Option (ℕ × ℕ) → ℕ
count_in (Some (n, k)) = n
count_in None = 0

abbrev pub surplus_in : Option (ℕ × ℕ) → ℕ
surplus_in (Some (n, k)) = k
surplus_in None = 0

abbrev pub some_in : Option (ℕ × ℕ) → ℕ
some_in (Some (n, k)) = 1
some_in None = 0

pub few_bits : (sh : List ℕ) (n p : ℕ) (x : Option Read) → length sh ≤ 65536 → x ≡ bits_of (reader sh) n p → Few (count_of x) (surplus_of x)
unfolding bits_of
few_bits sh n p x l e = few_read sh 0 p x (record { short = l; low = omega arith }) _ (products_small sh 1 n _ (smalls_replicate sh 1 n (bits_small sh 1))) e

module _ (sh : List ℕ) (d : ℕ) (s : List ℕ) (p : ℕ) (x : Option Read) (l : Limits sh d) where
  pub few_product : (k : Parts) (E : List ℕ) (n q : ℕ) → x ≡ balanced (reader sh) k d s E n q p → Few (count_of x) (surplus_of x)
  unfolding balanced
  few_product k E n q e = few_read sh d p x l _ (products_small sh (suc d) n _ (row_small sh d s k E n q)) e

  pub few_sum : (E : List ℕ) (n q : ℕ) → x ≡ chosen (reader sh) d s E n q p → Few (count_of x) (surplus_of x)
  unfolding chosen
  few_sum E n q e = few_read sh d p x l _ (choices_small sh (suc d) n _ (row_small sh d s Types E n q)) e

  pub few_block : (n q : ℕ) → x ≡ block_of (reader sh) d s n q p → Few (count_of x) (surplus_of x)
  unfolding block_of
  few_block n q e = few_read sh d p x l _ (blocks_small sh (suc d) n (standing_small sh d s q)) e

  pub few_list : (b : NonZeroPow2Usize) (q : ℕ) → x ≡ listed (reader sh) d s b q p → Few (count_of x) (surplus_of x)
  unfolding listed
  few_list b q e = few_read sh d p x l _ (lists_small sh (suc d) _ (standing_small sh d s q)) e

-- the records of the value that a shape gives, for the type of an accepted type file
pub few_records : (ty sh : List ℕ) (n k : ℕ) → length sh ≤ 65536 → value_records (type_in ty) sh ≡ Some (n, k) → n ≤ most_records
unfolding value_records type_in
few_records ty sh n k l h = go (reads (reader sh) (tree 32 ty 0) 0) h (few_read sh 32 0 (reads (reader sh) (tree 32 ty 0) 0) (record { short = l; low = omega arith }) (reads (reader sh) (tree 32 ty 0)) (tree_small sh ty 32 0) refl)
  where
    go : (x : Option Read) → records_in x ≡ Some (n, k) → Few (count_of x) (surplus_of x) → n ≤ most_records
    go (Some r) h f = let i = ap count_in h in let g = f.records in omega arith
    go None h f = let z = ap some_in h in absurd (omega arith)

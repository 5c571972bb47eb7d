-- What is computed of a record from its children's entries is true of what stands there.
use Rattle.std.specs.Prelude.{◌≡◌, ℕ, zero, suc, ◌+◌, ◌-◌, ◌*◌, ◌^◌, ◌≤◌}
use Rattle.std.proofs.Common.{sym, ap, ◌∙◌, zero-mul, suc-mul, mul-suc, add-mul, le_trans, arith}
use Rattle.std.proofs.Math.Nat.{two-pow-succ, one-le-pow}
use Rattle.std.proofs.Math.Decide.{dec_le}
use Rattle.model.specs.Structural.{SType, partition_type}
use Rattle.model.specs.Frames.{width}
use Rattle.model.proofs.Laws.Sizes.{nodes, nodes_partition_zero, nodes_partition_suc, width_partition_zero, width_partition_suc}
use Rattle.table.specs.Facts.{limit, cut}

-- CUTTING A MULTIPLE

le_times : (n s : ℕ) → 1 ≤ n → s ≤ n * s
le_times zero s h = absurd (omega arith)
le_times (suc n) s h = omega (arith, suc-mul n s)

pub cut_mul : (n s : ℕ) → cut (n * cut s) ≡ cut (n * s)
cut_mul zero s = ap cut (zero-mul (cut s) ∙ sym (zero-mul s))
cut_mul (suc n) s = go (dec_le s limit)
  where
    go : Dec (s ≤ limit) → cut (suc n * cut s) ≡ cut (suc n * s)
    go (yes h) = let e : cut s ≡ s = omega arith in ap (λ k. cut (suc n * k)) e
    go (no h) =
        let a : limit ≤ suc n * cut s = let k : limit ≤ cut s = omega arith in le_trans k (le_times (suc n) (cut s) (omega arith)) in
        let b : limit ≤ suc n * s = let k : limit ≤ s = omega arith in le_trans k (le_times (suc n) s (omega arith)) in
        omega arith

-- LISTS, in one formula: the bound b = 2 ^ suc e

double : (e x : ℕ) → 2 ^ suc (suc e) * x ≡ 2 ^ suc e * x + 2 ^ suc e * x
double e x = ap (λ k. k * x) (two-pow-succ (suc e)) ∙ add-mul (2 ^ suc e) (2 ^ suc e) x

list_nodes : (e : ℕ) (t : SType) → nodes (partition_type e t) + suc (nodes t) ≡ 2 ^ suc e * suc (nodes t) + 2 * e + 1
list_nodes zero t = omega (arith, nodes_partition_zero t)
list_nodes (suc e) t = omega (arith, nodes_partition_suc e t, list_nodes e t, mul-suc (2 ^ suc e) (nodes t), double e (suc (nodes t)))

list_width : (e : ℕ) (t : SType) → width (partition_type e t) + width t ≡ 2 ^ suc e * width t + suc e
list_width zero t = omega (arith, width_partition_zero t)
list_width (suc e) t = omega (arith, width_partition_suc e t, list_width e t, double e (width t))

-- m = b - 1 times an element's, and what the blocks add
less_one : (b x : ℕ) → 1 ≤ b → (b - 1) * x + x ≡ b * x
less_one zero x h = absurd (omega arith)
less_one (suc b) x h = ap (λ k. k * x + x) (suc_less b) ∙ sym (suc-mul b x)
  where
    suc_less : (b : ℕ) → suc b - 1 ≡ b
    suc_less b = omega arith

pub list_size : (e b : ℕ) (t : SType) → b ≡ 2 ^ suc e → nodes (partition_type e t) ≡ (b - 1) * nodes t + ((b - 1) + 2 * suc e - 1)
list_size e b t h =
    let o : 1 ≤ b = rw h (one-le-pow (suc e) 2 (omega arith)) in
    let k : b * suc (nodes t) ≡ 2 ^ suc e * suc (nodes t) = ap (λ n. n * suc (nodes t)) h in
    omega (arith, list_nodes e t, less_one b (nodes t) o, mul-suc b (nodes t))

pub list_bits : (e b : ℕ) (t : SType) → b ≡ 2 ^ suc e → width (partition_type e t) ≡ (b - 1) * width t + suc e
list_bits e b t h =
    let o : 1 ≤ b = rw h (one-le-pow (suc e) 2 (omega arith)) in
    let k : b * width t ≡ 2 ^ suc e * width t = ap (λ n. n * width t) h in
    omega (arith, list_width e t, less_one b (width t) o)

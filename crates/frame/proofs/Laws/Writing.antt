-- Laws of writing bits one stretch behind the other.
use Rattle.std.specs.Prelude.{◌≡◌, refl, Bool, List, [], ◌++◌, ℕ, length}
use Rattle.std.proofs.Common.{sym, ap, ◌∙◌, arith, length-append}
use Rattle.std.proofs.Math.Option.{some, some-injective}
use Rattle.model.specs.Options.{map_o}
use Rattle.model.proofs.Laws.Options.{bind_o_some, map_o_some}
use Rattle.bits.specs.Laws.Writing.{wrote_none, wrote_then}
use Rattle.frame.specs.Forms.{Bits, and_then, Fitted, Framed}

pub fitted_as : {o q : Bits} {buf : List ℕ} {bit : ℕ} → o ≡ q → Fitted o buf bit → Fitted q buf bit
fitted_as e f = record { frame = f.frame; next = f.next; told = sym e ∙ f.told; inside = f.inside }

pub framed_as : {o q : Bits} {before : List ℕ} {bit : ℕ} {after : List ℕ} {next end : ℕ} → o ≡ q → Framed q before bit after next end → Framed o before bit after next end
framed_as e f = record { frame = f.frame; told = e ∙ f.told; wrote = f.wrote; ends = f.ends }

pub framed_none : (v bit : ℕ) (buf : List ℕ) → Framed (some ([], v)) buf bit buf v bit
framed_none v bit buf = record { frame = []; told = refl; wrote = wrote_none; ends = omega arith }

-- ONE AND ANOTHER

-- their bits
record Both (l : Bits) (r : ℕ → Bits) (frame : List Bool) (next : ℕ) : Type 0 where
  one : List Bool
  other : List Bool
  middle : ℕ
  first : l ≡ some (one, middle)
  second : r middle ≡ some (other, next)
  same : frame ≡ one ++ other

both : (l : Bits) (r : ℕ → Bits) (frame : List Bool) (next : ℕ) → and_then l r ≡ some (frame, next) → Both l r frame next
both l r frame next h =
    let (x, e, q) = bind_o_some l (λ x. map_o (λ y. (x.0 ++ y.0, y.1)) (r x.1)) (frame, next) h in
    let (y, i, j) = map_o_some (λ y. (x.0 ++ y.0, y.1)) (r x.1) (frame, next) q in
    record {
      one = x.0;
      other = y.0;
      middle = x.1;
      first = e;
      second = i ∙ ap (λ n. some (y.0, n)) (ap (λ (z : List Bool × ℕ). z.1) j);
      same = sym (ap (λ (z : List Bool × ℕ). z.0) j);
    }

module _ (l : Bits) (r : ℕ → Bits) where
  pub fitted_first : {buf : List ℕ} {bit : ℕ} → Fitted (and_then l r) buf bit → Fitted l buf bit
  fitted_first f =
      let b = both l r f.frame f.next f.told in
      let n = ap length b.same ∙ length-append b.one b.other in
      record { frame = b.one; next = b.middle; told = b.first; inside = (omega (arith, f.inside.0), omega (arith, f.inside.1)) }

  pub fitted_rest : {buf new : List ℕ} {bit next end : ℕ} → Fitted (and_then l r) buf bit → Framed l buf bit new next end → Fitted (r next) new end
  fitted_rest {buf} {new} {bit} {next} {end} f w =
      let b = both l r f.frame f.next f.told in
      let q : ◌≡◌ {A = Bits} (some (b.one, b.middle)) (some (w.frame, next)) = sym b.first ∙ w.told in
      let u = some-injective (b.one, b.middle) (w.frame, next) q in
      let i : b.middle ≡ next = ap (λ (z : List Bool × ℕ). z.1) u in
      let j : b.one ≡ w.frame = ap (λ (z : List Bool × ℕ). z.0) u in
      let n = ap length b.same ∙ length-append b.one b.other in
      let m = ap length j in
      let k = w.wrote.same in
      let e = w.ends in
      record { frame = b.other; next = f.next; told = ap r (sym i) ∙ b.second; inside = (omega (arith, f.inside.0), omega (arith, f.inside.1)) }

  pub framed_then : {a b c : List ℕ} {bit next end next' end' : ℕ} → Framed l a bit b next end → Framed (r next) b end c next' end' → Framed (and_then l r) a bit c next' end'
  framed_then {next = next} x y =
      let e = x.ends in
      let f = y.ends in
      record {
        frame = x.frame ++ y.frame;
        told = ap (λ (o : Bits). and_then o r) x.told ∙ ap (map_o (λ z. (x.frame ++ z.0, z.1))) y.told;
        wrote = wrote_then x.wrote y.wrote e;
        ends = omega (arith, length-append x.frame y.frame);
      }

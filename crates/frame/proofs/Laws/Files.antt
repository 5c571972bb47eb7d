-- A whole frame as bytes: its bits from bit 0 on and zeros up to the end of the last byte are the frame file over the front of the buffer.
use Rattle.std.specs.Prelude.{◌≡◌, Bool, false, List, [], ◌∷◌, ◌++◌, ℕ, ◌+◌, ◌-◌, ◌*◌, ◌/◌, ◌≤◌, ◌<◌, get_or, take}
use Rattle.std.proofs.Math.Path.{sym, ap, subst}
use Rattle.std.proofs.Common.{ap₂, ◌∙◌, zero-add, arith, length-append, length-drop, length-take, take-append-drop, drop_at, get_or-drop}
use Rattle.std.proofs.Math.Option.{some-injective}
use Rattle.std.proofs.Math.ListN.{length, drop}
use Rattle.std.proofs.lemmas.List.{length-replicate}
use Rattle.model.specs.Outcome.{done}
use Rattle.model.specs.Bytes.{Bytes, bits_of, bytes_for, fill, zeros}
use Rattle.model.specs.Structural.{SValue}
use Rattle.model.specs.Lowering.{lower}
use Rattle.model.specs.Values.{Value, inject}
use Rattle.model.specs.ValueFiles.{value_of}
use Rattle.model.specs.Frames.{width, bits, frame, frame_file, frame_bytes}
use Rattle.model.proofs.Laws.Bytes.{length_bits_of, bits_of_append, bits_of_injective, filled}
use Rattle.types.specs.Trees.{tree}
use Rattle.types.specs.Lows.{low}
use Rattle.types.specs.Steps.{Given}
use Rattle.structural.specs.Forms.{Stands}
use Rattle.structural.specs.Forms as structural
use Rattle.structural.specs.Writing.{put}
use Rattle.structural.specs.Writing as bytes
use Rattle.structural.proofs.Laws.Forms.{standing_is}
use Rattle.bits.specs.Bits.{Inside, Wrote}
use Rattle.bits.specs.Laws.Writing.{wrote_then, wrote_same}
use Rattle.bits.specs.Laws.Integers.{bytes_each}
use Rattle.told.specs.Forms as told
use Rattle.told.specs.Laws.Whole.{whole_told}
use Rattle.told.specs.Widths.{Wide}
use Rattle.frame.specs.Forms.{place, frame_at, Fitted, Framed, Room, Filed}
use Rattle.frame.proofs.Laws.Told.{standing_width, shape_fitted, shape_framed}

bytes_both : (xs ys : List ℕ) → Bytes xs → Bytes ys → Bytes (xs ++ ys)
bytes_both [] ys h k = k
bytes_both (x ∷ xs) ys h k = (h.0, bytes_both xs ys h.1 k)

-- bits that fill n bytes, over the bits of more bytes
behind : (out : List ℕ) (n : ℕ) → n ≤ length out → drop (8 * n) (bits_of out) ≡ bits_of (drop n out)
behind out n h =
    let l : length (bits_of (take n out)) ≡ 8 * n = length_bits_of (take n out) ∙ ap (λ k. 8 * k) (length-take n out ∙ omega arith) in
    ap (drop (8 * n)) (ap bits_of (sym (take-append-drop n out)) ∙ bits_of_append (take n out) (drop n out)) ∙ drop_at (bits_of (take n out)) (bits_of (drop n out)) (8 * n) l

module _ (x : List Bool) {out mid new : List ℕ} (u : Wrote out 0 x mid) (v : Wrote mid (length x) (zeros (8 * bytes_for (length x) - length x)) new) (room : bytes_for (length x) ≤ length out) (old : (i : ℕ) → get_or out i 0 < 256) (now : (i : ℕ) → get_or new i 0 < 256) where
  abbrev n : ℕ
  n = bytes_for (length x)

  abbrev y : List Bool
  y = x ++ zeros (8 * n - length x)

  all_bits : length y ≡ 8 * n
  all_bits = length-append x (zeros (8 * n - length x)) ∙ ap (λ k. length x + k) (length-replicate (8 * n - length x) false) ∙ omega arith

  both : Wrote out 0 y new
  both = wrote_then u v (sym (zero-add (length x)))

  same_bits : bits_of new ≡ bits_of (fill x ++ drop n out)
  same_bits =
      let k : 0 + length y ≡ 8 * n = omega (arith, all_bits) in
      both.bits ∙ ap (λ m. y ++ drop m (bits_of out)) k ∙ ap (λ l. y ++ l) (behind out n room) ∙ ap (λ l. l ++ bits_of (drop n out)) (sym (filled x).bits) ∙ sym (bits_of_append (fill x) (drop n out))

  same_length : length new ≡ length (fill x ++ drop n out)
  same_length = let e = (filled x).size in both.same ∙ sym (length-append (fill x) (drop n out) ∙ omega (arith, length-drop n out))

  file_wrote : bytes.Wrote (fill x) out new n
  unfolding put
  file_wrote = record {
    len = sym (filled x).size;
    out =
        bits_of_injective new (fill x ++ drop n out) (bytes_each new now) (bytes_both (fill x) (drop n out) (filled x).bytes (bytes_each (drop n out) (λ i. rw (get_or-drop n out i 0) (old (n + i))))) same_length same_bits
        ∙ ap (λ m. fill x ++ drop m out) (sym (filled x).size);
  }

-- THE WHOLE FILE, as code writes it

module _ {s E W : List ℕ} (val : List ℕ) {out : List ℕ} (g : Stands 32 s E 0) (w : Wide s E W) (r : Room (structural.standing 32 s 0) (told.standing 32 s val 0 0) out) where
  abbrev whole : List Bool
  whole = bits place (structural.standing 32 s 0) r.shape

  whole_size : length whole ≡ get_or W 0 0
  whole_size = standing_width 32 s val 0 0 (r.shape, r.next) r.told ∙ sym (w.right 32 0 g)

  pub file_sizes : (get_or W 0 0 ≤ 32768) × (bytes_for (get_or W 0 0) ≤ length out)
  file_sizes = let q = w.right 32 0 g in (w.small 32 0 g, rw q r.room)

  pub file_fitted : Fitted (frame_at 32 s val 0 0) out 0
  file_fitted = let (a, b) = file_sizes in let q = w.right 32 0 g in shape_fitted 32 s val 0 0 r.shape r.next r.told (omega arith, omega arith)

  module _ {mid : List ℕ} {next end : ℕ} (u : Framed (frame_at 32 s val 0 0) out 0 mid next end) where
    pub file_zeros : Inside mid (get_or W 0 0) (bytes_for (get_or W 0 0) * 8 - get_or W 0 0)
    file_zeros = let (a, b) = file_sizes in let k = u.wrote.same in (omega arith, omega arith)

    pub file_done : {new : List ℕ} → Wrote mid (get_or W 0 0) (zeros (bytes_for (get_or W 0 0) * 8 - get_or W 0 0)) new → ((i : ℕ) → get_or out i 0 < 256) → ((i : ℕ) → get_or new i 0 < 256) → Filed (structural.standing 32 s 0) (told.standing 32 s val 0 0) out new (bytes_for (get_or W 0 0))
    file_done {new} v old now =
        let l = whole_size in
        let k : bytes_for (get_or W 0 0) * 8 - get_or W 0 0 ≡ 8 * bytes_for (length whole) - length whole = omega arith in
        let x : Wrote out 0 whole mid = (shape_framed 32 s val 0 0 r.shape r.next r.told u).1 in
        let y : Wrote mid (length whole) (zeros (8 * bytes_for (length whole) - length whole)) new = rw l (wrote_same v (ap zeros (k ∙ ap (λ n. 8 * bytes_for n - n) l))) in
        record {
          shape = r.shape;
          next = r.next;
          told = r.told;
          count = ap bytes_for (w.right 32 0 g);
          wrote = rw (← l) (file_wrote whole x y (rw l file_sizes.1) old now);
        }

-- THE VALUE OF AN ACCEPTED FILE

stands_whole : {s E : List ℕ} → Given 32 false s E 0 → structural.standing 32 s 0 ≡ lower (tree 32 s 0)
unfolding low
stands_whole g = standing_is g

module _ {s E : List ℕ} (val : List ℕ) (g : Given 32 false s E 0) (x : Value (tree 32 s 0)) (h : value_of (tree 32 s 0) val ≡ done x) where
  -- there is room for its frame
  pub frame_room : {out : List ℕ} → frame_bytes (tree 32 s 0) ≤ length out → Room (structural.standing 32 s 0) (told.standing 32 s val 0 0) out
  frame_room r = record { shape = inject (tree 32 s 0) x; next = length val / 36; told = whole_told s E val x g h; room = rw (stands_whole g) r }

  -- what was written is its frame file
  pub frame_filed : {before after : List ℕ} {r : ℕ} → Filed (structural.standing 32 s 0) (told.standing 32 s val 0 0) before after r → (r ≡ frame_bytes (tree 32 s 0)) × bytes.Wrote (frame_file place (tree 32 s 0) x) before after r
  unfolding frame_file frame
  frame_filed {before} {after} {r} f =
      let q = some-injective (f.shape, f.next) (inject (tree 32 s 0) x, length val / 36) (sym f.told ∙ whole_told s E val x g h) in
      let e : f.shape ≡ inject (tree 32 s 0) x = ap (λ (z : SValue × ℕ). z.0) q in
      (f.count ∙ ap (λ a. bytes_for (width a)) (stands_whole g), subst (λ l. bytes.Wrote (fill l) before after r) (ap₂ (bits place) (stands_whole g) e) f.wrote)

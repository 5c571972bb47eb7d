-- The bits of the frame from bit 0 on, and zeros up to the end of the last byte. Assumes nothing.
use mathlib.Core.Path.{◌≡◌, ◌∙◌}
use Prim.Native.Nat.{◌+◌, ◌/◌}
use native.Mathlib.Omega.{arith}
use borrow.Author.Rules.{rules}
use Rattle.structural.proofs.Laws.Forms.{stands}
use Rattle.frame.proofs.Laws.Files.{file_sizes, file_fitted, file_zeros, file_done}
use Rattle.told.specs.Laws.Widths.{width_there}
use Rattle.frame.proofs.write_frame.Goals as goal

pub width-width-requires : goal.width-width-requires
width-width-requires c = width_there (stands c.requires.given) c.requires.wide

pub write_record-requires : goal.write_record-requires
write_record-requires c = record { stands = stands c.requires.given; wide = c.requires.wide; fitted = file_fitted _ (stands c.requires.given) c.requires.wide c.requires.room }

pub overflow_mul-len : goal.overflow_mul-len
overflow_mul-len c = let l = (file_sizes _ (stands c.requires.given) c.requires.wide c.requires.room).0 in omega (arith, c.width-width.ensures, c.div_ceil-len.ensures)

pub write_zeros-requires : goal.write_zeros-requires
write_zeros-requires c =
    let e : c.div_ceil-len.result ≡ (c.width-width.result + 7) / 8 = c.div_ceil-len.ensures ∙ omega arith in
    rw (e, c.width-width.ensures) (file_zeros _ (stands c.requires.given) c.requires.wide c.requires.room c.write_record.ensures)

pub returns : goal.returns
returns c =
    let e : c.div_ceil-len.result ≡ (c.width-width.result + 7) / 8 = c.div_ceil-len.ensures ∙ omega arith in
    rw (e, c.width-width.ensures) (file_done _ (stands c.requires.given) c.requires.wide c.requires.room c.write_record.ensures (rw (← c.width-width.ensures, ← e) c.write_zeros.ensures) (λ i. search rules) (λ i. (c.type_inv.out i).fits))

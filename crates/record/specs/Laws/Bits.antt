-- Bits and integers: a bit is the choice of a Boolean's record, and an integer is what a row of bits says.
use Rattle.std.specs.Prelude.{◌≡◌, refl, [], ◌∷◌, ℕ}
use Rattle.std.proofs.Common.{sym, ap, ◌∙◌}
use Rattle.model.specs.Options.{map_o, bind_o, map_m}
use Rattle.model.specs.Bytes.{of_bits}
use Rattle.model.specs.Structural.{SValue}
use Rattle.model.specs.Types.{bool, uint}
use Rattle.model.specs.Reconstruct.{as_tuple, as_bit, reconstruct}
use Rattle.model.specs.ValueFiles.{rec, bit_number, encode}
use Rattle.record.specs.Trees.{bit_row}
use Rattle.model.proofs.Laws.Options.{map_o_map_o, map_o_bind_o}
use Rattle.record.specs.Laws.Products.{records_of}

pub integer_bits : (w : ℕ) (x : SValue) → records_of (uint w) x ≡ map_o (λ bs. rec 2 0 w (of_bits bs) ∷ []) (bit_row w x)
unfolding encode reconstruct bit_row
integer_bits w x =
    ap (map_o (encode (uint w))) (sym (map_o_bind_o (map_m as_bit) of_bits (as_tuple w x)))
    ∙ map_o_map_o of_bits (encode (uint w)) (bind_o (as_tuple w x) (map_m as_bit))

pub bool_bit : (x : SValue) → records_of bool x ≡ map_o (λ b. rec 1 (bit_number b) 0 0 ∷ []) (as_bit x)
unfolding encode reconstruct
bool_bit x = refl

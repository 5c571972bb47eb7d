-- How the code names what a line shows.
use Rattle.std.specs.Prelude.{List, ℕ}
use Rattle.text.specs.Lines.{in_digits, in_hex}
use Rattle.text.specs.declared.Contents.{Contents}
use Rattle.text.specs.declared.Contents.TheVariants.{Records, Bytes}

abbrev pub shown : Contents → List ℕ → List ℕ
shown Records l = in_digits l
shown Bytes l = in_hex l

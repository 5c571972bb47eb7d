-- How a type's record is walked over.
use Rattle.num.specs.Powers.{bound_two}
use Rattle.types.specs.declared.Head.{Head}
use Rattle.types.specs.declared.Head.TheVariants.{Missing, Faulty, Never, Boolean, UInt, Either, Opt, Tuple, Array, Listed, Variants}
use Rattle.types.specs.declared.Head.TheVariants as head
use Rattle.types.specs.declared.forms.Parts.TheVariants.{Copies, Types}
use Rattle.types.specs.declared.forms.Form.{Form}
use Rattle.types.specs.declared.forms.Form.TheVariants as form

-- nothing where no type stands and of a Never
abbrev pub form_of : Head → Form
form_of Missing = form.Nothing
form_of Faulty = form.Nothing
form_of Never = form.Nothing
form_of Boolean = form.Bit
form_of (UInt w) = form.Integer w.value
form_of Either = form.Sum 2
form_of Opt = form.List bound_two
form_of (Tuple n) = form.Product Types n
form_of (Array n) = form.Product Copies n
form_of (Listed b) = form.List b
form_of (Variants n) = form.Sum n
form_of (head.Payload n) = form.Payload n

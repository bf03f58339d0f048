-- A fault: what is wrong, at which byte, and which layer of the reading says so.
use Rattle.std.specs.Prelude.{ℕ, List, codes}
use Rattle.book.specs.declared.fault.Fault.{Fault}
use Rattle.book.specs.declared.fault.Cause.{Cause}
use Rattle.book.specs.declared.fault.Cause.TheVariants.{TooLong, Ended, Cut, OtherTag, WrongLength, OutOfRange}
use Rattle.book.specs.declared.fault.Layer.{Layer}
use Rattle.book.specs.declared.fault.Layer.TheVariants.{Book, Field, Record}

-- the number under which a cause is reported
abbrev pub number_of : Cause → ℕ
number_of TooLong = 14
number_of Ended = 15
number_of Cut = 16
number_of OtherTag = 17
number_of WrongLength = 18
number_of OutOfRange = 19

-- the layer that finds it
abbrev pub layer_of : Cause → Layer
layer_of TooLong = Book
layer_of Ended = Book
layer_of Cut = Field
layer_of OtherTag = Record
layer_of WrongLength = Record
layer_of OutOfRange = Record

-- a layer's word
abbrev pub word_of : Layer → List ℕ
word_of Book = codes "book"
word_of Field = codes "field"
word_of Record = codes "record"

abbrev pub fault : Cause → ℕ → Fault
fault c b = record { cause = c; byte = b; layer = layer_of c }

use Rattle.std.proofs.Common.{◌%◌, ◌/◌, ap}
use Rattle.book.proofs.Packed.{pow_four}
use Rattle.book.proofs.filed.digit.Goals as goal

pub returns : goal.returns
returns c = ap (λ w. c.args.number / w % 16) (pow_four c.args.k)

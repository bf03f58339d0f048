-- What a word and a number among the arguments ask for.
use Rattle.std.specs.Prelude.{◌≡◌, ℕ, cond, List, Some, None, Option, codes, ◌≢◌, nat_lt}
use Rattle.judge.specs.declared.Order.{Order}
use Rattle.judge.specs.declared.Order.TheVariants.{Drill, Playbook}

pub record Asks (word : List ℕ) (number : ℕ) (order : Option Order) : Type 0 where
  pub drill : word ≡ codes "drill" → order ≡ Some (Drill (cond (nat_lt number 256) number 0))
  pub playbook : word ≡ codes "playbook" → order ≡ Some (Playbook number)
  pub unknown : (word ≢ codes "drill") → (word ≢ codes "playbook") → order ≡ None

-- The resend drill: the gateway sends until the line carries it or the tries run out.
use Rattle.std.specs.Prelude.{ℕ, ◌+◌, ◌≤◌, cond, ◌==◌, nat_le, nat_lt}
use Rattle.game.specs.Structure.{Structure, move_of}
use Rattle.game.specs.Made.{made}

-- player 1, the gateway: 1 hold, 2 send; player 2, the line: 1 lose, 2 carry
abbrev pub gateway : ℕ
gateway = 1

abbrev pub line : ℕ
line = 2

abbrev pub hold : ℕ
hold = 1

abbrev pub carry : ℕ
carry = 2

-- the states after the tries, which are 0 to the limit T
abbrev pub answered : ℕ → ℕ
answered T = T + 1

abbrev pub given_up : ℕ → ℕ
given_up T = T + 2

-- two moves each at a try, one each at both ends
abbrev pub counts : ℕ → ℕ → ℕ → ℕ
counts T a s = cond (nat_le s T) 2 1

-- label 8 stands where the message is answered, label 0 where it is given up
abbrev pub labels : ℕ → ℕ → ℕ
labels T s = cond (s == answered T) 0x100 (cond (s == given_up T) 0x001 0)

-- a lost message uses up a try
abbrev pub lost : ℕ → ℕ → ℕ
lost T s = cond (nat_lt s T) (s + 1) (given_up T)

-- a try: hold stays, send is carried or lost
abbrev pub try : ℕ → ℕ → ℕ → ℕ
try T s v = cond (move_of gateway v == hold) s (cond (move_of line v == carry) (answered T) (lost T s))

-- both ends lead to themselves
abbrev pub lead : ℕ → ℕ → ℕ → ℕ
lead T s v = cond (nat_le s T) (try T s v) s

abbrev pub drill : ℕ → Structure
drill T = made 2 (T + 3) 0 (counts T) (labels T) (lead T)

-- the highest vector of a state
abbrev pub most : ℕ → ℕ → ℕ
most T s = cond (nat_le s T) 0x22 0x11

-- the limits that a drill may have
abbrev pub Limit : ℕ → Type 0
Limit T = (1 ≤ T) × (T ≤ 253)

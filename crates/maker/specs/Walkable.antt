-- What the maker's walk asks of a machine: states S, with node and wait count left aside. Idle.antt has the machine itself.
use Rattle.std.specs.Prelude.{ℕ, Bool}

-- what stands at a state's pc: a refusal, finish, a word that leads on, a qif, a fiq
pub data Look (S : Type 0) : Type 0 where
  halts : ℕ → Look S
  last : Look S
  goes : S → Look S
  forks : Look S
  joins : Look S

pub record Walkable (S : Type 0) : Type 0 where
  pub look : S → Look S
  -- the word in the register that the qif or fiq names, that register set to a coin, and pc moved on
  pub coin : S → ℕ
  pub coined : S → ℕ → S
  pub on : S → S
  -- the fiq of the second state names the register of the qif at the first, and it holds the coin
  pub holds : S → ℕ → S → Bool
  -- after the fiq of the second state, with the register's word from the qif at the first
  pub after : S → S → S
  pub same : S → S → Bool
  -- 18: the word after the one at pc is start
  pub is_before_start : S → Bool

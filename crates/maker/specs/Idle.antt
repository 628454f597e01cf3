-- The machine as the maker walks it: uni and unib idle, node, wait count and position left aside (document 02, #107).
use Rattle.std.specs.Prelude.{ℕ, Bool, not, ◌&&◌, ◌||◌, [], eqb, ltb, length, get_or}
use Rattle.word.specs.Word.{pick}
use Rattle.word.specs.Refusal.{refuse, number_of}
use Rattle.qins.specs.Op.{Op}
use Rattle.qins.specs.Op.Op.{None, Start}
use Rattle.qins.specs.Decode.{opcode, decode, is_instruction}
use Rattle.step.specs.declared.Direction.TheVariants.{Forward}
use Rattle.step.specs.Step.{Attempt}
use Rattle.std.specs.Prelude.{Err, Ok}
use Rattle.step.specs.View.{View, reg, with_reg, placed}
use Rattle.step.specs.Same.{same_view}
use Rattle.step.specs.Nodes.{by_node}
use Rattle.step.specs.Step.{shifted, performed, attempt}
use Rattle.machine.specs.Turn.{pc, br, at_pc, stride, is_code, starts, finishes, landed, to}
use Rattle.maker.specs.declared.Kind.{Kind}
use Rattle.maker.specs.declared.Kind.TheVariants.{Plain, Opens, Closes}
use Rattle.maker.specs.Walkable.{Look, Walkable}
use Rattle.maker.specs.Walkable.Look.{halts, last, goes, forks, joins}

-- ---- the operation of a word, with uni and unib idle: start moves pc, and does nothing else

abbrev pub is_gate : ℕ → Bool
is_gate w = eqb (opcode w) 32 || eqb (opcode w) 33

unfoldable pub idle_op : ℕ → Op
idle_op w = pick (is_gate w) (pick (is_instruction w) Start None) (decode w)

abbrev pub op_at : View → Op
op_at s = idle_op (get_or s.memory (pc s) 0)

-- a qif, a fiq, each with the register of its coin, or any other word
abbrev pub kind_of : Op → Kind
kind_of o = by_node o Opens Closes Plain

abbrev pub coin_of : Kind → ℕ
coin_of Plain = 0
coin_of (Opens a) = a
coin_of (Closes a) = a

abbrev pub coin_at : View → ℕ
coin_at s = coin_of (kind_of (op_at s))

-- ---- one word

abbrev pub on : View → View
on s = at_pc s (shifted Forward (pc s) (stride (br s)))

abbrev pub is_before_start : View → Bool
is_before_start s = starts s.at s.memory (shifted Forward (pc s) (stride (br s)))

-- where an attempt leads
abbrev pub led_to : View → Attempt → Look View
led_to s (Err e) = halts (number_of e)
led_to s (Ok e) = goes (to Forward (performed e s))

-- the machine's own attempt of a word that is no qif or fiq, without a table, with 18 after it
abbrev pub plain : Op → View → Look View
plain o s = led_to s (landed Forward s (attempt [] Forward o s))

-- a coin register is neither pc nor br, and is one of those that there are: so it is with sixteen, by decode
abbrev pub is_register : View → ℕ → Bool
is_register s a = ltb 1 a && ltb a (length s.regs)

abbrev pub look_by : Kind → Op → View → Look View
look_by Plain o s = plain o s
look_by (Opens a) o s =
    refuse (not (is_register s a)) (halts 13)
    (refuse (is_before_start s) (halts 18)
    forks)
look_by (Closes a) o s =
    refuse (not (is_register s a)) (halts 13)
    joins

unfoldable pub look_at : View → Look View
look_at s =
    refuse (not (is_code s.at (pc s))) (halts 11)
    (pick (finishes s.memory (pc s)) last
    (look_by (kind_of (op_at s)) (op_at s) (placed 0 0 0 s)))

-- ---- all of it

-- two branches are compared after their fiq, where pc has moved on by br and the coin register is restored: br is compared too, so
-- that they are the same there exactly where they differ at the fiq in nothing but that register
abbrev pub machine : Walkable View
machine =
    record {
      look = look_at;
      coin = λ s. reg s (coin_at s);
      coined = λ s x. with_reg s (coin_at s) x;
      on = on;
      holds = λ s x z. eqb (coin_at s) (coin_at z) && eqb (reg z (coin_at z)) x;
      after = λ s z. with_reg (on z) (coin_at s) (reg s (coin_at s));
      same = same_view;
      is_before_start = is_before_start;
    }

-- Check (document 01, "Image").
use Rattle.std.specs.Prelude.{ℕ, zero, suc, ◌+◌, Bool, not, ⊤, Option, Some, None, Result, Ok, Err, ◌&&◌, ◌||◌, List, eqb, ltb, leb, get_or}
use Rattle.word.specs.Word.{pick}
use Rattle.word.specs.Refusal.{refuse}
use Rattle.qins.specs.Decode.{is_instruction}
use Rattle.step.specs.Table.{fc, lc, cf, cl, nx, pr, is_node, link}
use Rattle.machine.specs.Machine.{Machine, state_of, wrong_sizes}
use Rattle.links.specs.declared.Checked.{Checked}
use Rattle.links.specs.declared.Fault.{Fault}
use Rattle.links.specs.declared.Fault.TheVariants.{Sizes, CodeWord, Link}

-- the first of the n numbers from i on where the test holds, i + n where there is none
unfoldable pub first_of : (ℕ → Bool) → ℕ → ℕ → ℕ
first_of test i zero = i
first_of test i (suc n) = pick (test i) i (first_of test (suc i) n)

-- the same number, where there is one
abbrev pub lowest_of : (ℕ → Bool) → ℕ → ℕ → Option ℕ
lowest_of test i n = pick (ltb (first_of test i n) (i + n)) (Some (first_of test i n)) None

-- ---- links

-- link j of node v is 0, or leads to a node from which link g or link h leads back to v
unfoldable pub returns : List ℕ → ℕ → ℕ → ℕ → ℕ → ℕ → Bool
returns t n v j g h =
    eqb (link t n v j) 0
    || (is_node n (link t n v j) && (eqb (link t n (link t n v j) g) v || eqb (link t n (link t n v j) h) v))

-- fc_x by cf, lc_x by cl
unfoldable pub children_return : List ℕ → ℕ → ℕ → ℕ → Bool
children_return t n v x = returns t n v (fc x) cf cf && returns t n v (lc x) cl cl

-- nx by pr, pr by nx; cf by fc0 or fc1, cl by lc0 or lc1
unfoldable pub unpaired : List ℕ → ℕ → ℕ → Bool
unpaired t n v =
    not (children_return t n v 0
    && (children_return t n v 1
    && (returns t n v nx pr pr
    && (returns t n v pr nx nx
    && (returns t n v cf (fc 0) (fc 1)
    && returns t n v cl (lc 0) (lc 1))))))

-- ---- the check

-- address a of the memory l holds no instruction
abbrev pub no_instruction : List ℕ → ℕ → Bool
no_instruction l a = not (is_instruction (get_or l a 0))

abbrev pub bad_address : Machine → ℕ
bad_address x = first_of (no_instruction (state_of x).words) 0 x.state.k

-- a node has an unpaired link, in the first 9 N lent words
abbrev pub bad_links : Machine → ℕ → Bool
bad_links x = unpaired (state_of x).links x.state.n

abbrev pub bad_node : Machine → ℕ
bad_node x = first_of (bad_links x) 1 x.state.n

abbrev pub checked_as : ℕ → ℕ → Checked
checked_as n p = record { refusal = n; place = p }

-- what the call's answer says
abbrev pub checked_of : Result ⊤ Fault → Checked
checked_of (Ok _) = checked_as 0 0
checked_of (Err Sizes) = checked_as 10 0
checked_of (Err (CodeWord a)) = checked_as 7 a
checked_of (Err (Link v)) = checked_as 8 v

abbrev pub check_of : Machine → Checked
check_of x =
    refuse (wrong_sizes x) (checked_as 10 0)
    (refuse (ltb (bad_address x) x.state.k) (checked_as 7 (bad_address x))
    (refuse (leb (bad_node x) x.state.n) (checked_as 8 (bad_node x))
    (checked_as 0 0)))

-- one node (document 02, #105); of the memory only the length counts
abbrev pub check_node_of : Machine → ℕ → ℕ
check_node_of x v =
    refuse (wrong_sizes x) 10
    (refuse (not (is_node x.state.n v)) 17
    (refuse (bad_links x v) 8
    0))

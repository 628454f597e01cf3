-- The call around the walk: what an accepted start gives, and what is promised of either end. Assumes nothing.
use mathlib.Core.Path.{◌≡◌, refl, sym, ap, ◌∙◌}
use mathlib.Core.Bool.{Bool, true, false, not, ◌&&◌}
use mathlib.Core.List.{List, ◌++◌}
use Prim.Native.Nat.{ℕ, ◌*◌, ◌<◌, ◌≤◌}
use lib.Dec.{eqb, leb}
use lib.ListN.{length, get_or, take, drop, take-append-drop}
use lib.Seq.{length-take-le, drop-append_seam}
use borrow.Author.Tests.{leb-true, eqb-true, ne_eqb}
use Rattle.word.specs.Word.{pick}
use Rattle.word.specs.Refusal.{refuse}
use Rattle.machine.specs.Turn.{starts}
use Rattle.machine.specs.declared.Record.{Record}
use Rattle.machine.specs.Machine.{status_of, Machine, machine_of, left_as, state_of, wrong_sizes}
use Rattle.maker.specs.declared.Made.{Made}
use Rattle.maker.specs.Parts.{Sized}
use Rattle.maker.specs.Make.{most_words, walk_over, scratch_words, can_begin, refusal_of, outcome_of, made_as, answer_of, drawn_by, MakePromise}
use Rattle.word.proofs.Words.{and_true, not_not}
use Rattle.word.proofs.Refusal.{refuse_none}
use Rattle.machine.proofs.WrongSizes.{wrong_sizes_right}

-- ---- what a start that is not refused gives

pub record Ready (x : Machine) (scratch : List ℕ) : Type 0 where
  pub sizes : wrong_sizes x ≡ false
  pub code : (0 < x.state.k) × (x.state.k ≤ x.state.m) × (x.state.m ≤ 8192)
  pub words : x.state.m ≤ length x.memory
  pub front : x.state.m ≡ length (take x.state.m x.memory)
  pub wait : x.state.qifw ≡ 0
  pub nodes : 4599 ≤ length x.table
  pub table_front : 4599 ≡ length (take 4599 x.table)
  pub room : 16 * x.state.m ≤ length scratch
  pub room_front : 16 * x.state.m ≡ length (take (16 * x.state.m) scratch)

pub ready : (x : Machine) (scratch : List ℕ) → refusal_of x scratch ≡ 0 → Ready x scratch
ready x scratch e =
    let r = x.state in
    let mem = x.memory in
    let table = x.table in
    let w = refuse_none (wrong_sizes x) 9 (refuse (not (can_begin x scratch)) 22 0) e in
    let s = wrong_sizes_right x w.0 in
    let r₄ : Bool = leb most_words (length table) && leb (scratch_words r) (length scratch) in
    let r₃ : Bool = eqb r.qifw 0 && r₄ in
    let r₂ : Bool = eqb r.n 0 && r₃ in
    let g = and_true (starts (status_of r) (take r.m mem) (get_or r.regs 0 0)) r₂ (not_not _ (refuse_none (not (can_begin x scratch)) 21 0 w.1).0) in
    let h = and_true (eqb r.qifw 0) r₄ (and_true (eqb r.n 0) r₃ g.1).1 in
    let i = and_true (leb most_words (length table)) (leb (scratch_words r) (length scratch)) h.1 in
    let most : 4599 ≤ length table = leb-true 4599 (length table) i.0 in
    let room : 16 * r.m ≤ length scratch = leb-true (16 * r.m) (length scratch) i.1 in
    record {
      sizes = w.0;
      code = (s.some, s.code, s.words);
      words = s.memory;
      front = sym (length-take-le r.m mem s.memory);
      wait = eqb-true r.qifw 0 h.0;
      nodes = most;
      table_front = sym (length-take-le 4599 table most);
      room = room;
      room_front = sym (length-take-le (16 * r.m) scratch room);
    }

module _ (x : Machine) (limit : ℕ) (scratch : List ℕ) where
  abbrev r : Record
  r = x.state

  abbrev start : ℕ
  start = refusal_of x scratch

  pub sized_front : Ready x scratch → Sized r.k r.m (length (state_of x).words)
  sized_front h = (h.code.0, h.code.1, h.code.2, sym h.front)

  -- ---- 10 and 22

  pub refused_promise : (n : ℕ) → n ≡ start → ¬ (n ≡ 0) → MakePromise x limit scratch n 0 (left_as x r x.memory) scratch
  refused_promise n e h =
      let no : eqb start 0 ≡ false = ne_eqb start 0 (λ z. h (e ∙ z)) in
      record {
        answer = ap (λ (i : ℕ). made_as i 0 r) e ∙ sym (ap (λ (b : Bool). pick b (answer_of r (outcome_of x limit)) (made_as start 0 r)) no);
        memory = refl;
        nodes = sym (ap (λ (b : Bool). pick b (drawn_by (outcome_of x limit) ++ drop most_words x.table) x.table) no);
        behind = refl;
        untouched = λ z. refl;
      }

  -- ---- the walk, over the fronts

  pub made_promise : start ≡ 0 → (a : Made) (m t s : List ℕ)
      → a ≡ answer_of r (walk_over r limit (state_of x).words)
      → t ≡ drawn_by (walk_over r limit (state_of x).words)
      → m ≡ (state_of x).words → length s ≡ 16 * r.m
      → MakePromise x limit scratch a.refusal a.cycles (machine_of a.state (m ++ drop r.m x.memory) (t ++ drop most_words x.table)) (s ++ drop (scratch_words r) scratch)
  unfolding outcome_of
  made_promise e a m t s p q f l =
      let yes : eqb start 0 ≡ true = ap (λ (i : ℕ). eqb i 0) e in
      record {
        answer = p ∙ sym (ap (λ (b : Bool). pick b (answer_of r (outcome_of x limit)) (made_as start 0 r)) yes);
        memory = ap (λ (l : List ℕ). l ++ drop r.m x.memory) f ∙ take-append-drop r.m x.memory;
        nodes = ap (λ (l : List ℕ). l ++ drop most_words x.table) q
            ∙ sym (ap (λ (b : Bool). pick b (drawn_by (outcome_of x limit) ++ drop most_words x.table) x.table) yes);
        behind = ap (λ (i : ℕ). drop i (s ++ drop (scratch_words r) scratch)) (sym l) ∙ drop-append_seam s (drop (scratch_words r) scratch);
        untouched = λ h. absurd (h e);
      }

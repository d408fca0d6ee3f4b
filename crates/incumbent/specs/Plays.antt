-- The rule of a board's table, and what each atomic step tells the seat that makes it.
use Rattle.std.specs.Prelude.{◌≡◌, ◌≢◌, ℕ, suc, ◌+◌, ◌*◌, ◌/◌, ◌%◌, ◌^◌, ◌<◌, List, length, Option, Some, All, IsTrue}
use Rattle.atomic_table.specs.Table.{State, Me, Step}
use Rattle.run_theory.specs.Keys.{IsNoWorse}
use Rattle.round_core.specs.declared.parts.Fate.TheVariants.{HalfWritten, Written, Offered}
use Rattle.round_core.specs.Rounds.{outranks}
use Rattle.board_laws.specs.declared.views.View.{View}
use Rattle.board_laws.specs.Indexes.{gain_of, index_key, IsIndex}
use Rattle.board_laws.specs.Views.{HasFate, claimed_view, looked_view, marked_view, settling_view}
use Rattle.board_laws.specs.Boards.{IsBoard}

-- the seat: what it knows; it holds no slot
abbrev pub Sat : Type 0
Sat = Me (Unit {0}) View

-- the rule of the table
abbrev pub Ruled : List (Option ℕ) → State (Unit {0}) View → Type 0
Ruled gains s = IsBoard gains s.words s.views

-- a claim: the seat's lengths are below the one that it found
abbrev pub Claims : List (Option ℕ) → Step (Unit {0}) → Sat → ℕ → Sat → Type 0
Claims gains s me found me' =
    (me' ≡ (claimed_view (length gains) me.0 found, me.1)) × All (λ e. e.k < found) me.0.owned

-- a load of the best index: it is no worse than what the seat saw, and that of no length of the seat that is only
-- Written
abbrev pub Looks : List (Option ℕ) → Option ℕ → Step (Unit {0}) → Sat → ℕ → Sat → Type 0
Looks gains settles s me found me' =
    (me' ≡ (looked_view gains settles me.0 found, me.1)) × IsIndex gains found
    × IsNoWorse (index_key gains me.0.seen) (index_key gains found)
    × ((k : ℕ) → HasFate k Written me.0.owned → found ≢ suc k)

-- stores of the halves
abbrev pub StoresHigh : Step (Unit {0}) → Sat → ℕ → Sat → Type 0
StoresHigh s me stored me' = (k : ℕ) → s.word ≡ 2 + 2 * k → me' ≡ (marked_view k HalfWritten me.0, me.1)

abbrev pub StoresLow : Step (Unit {0}) → Sat → ℕ → Sat → Type 0
StoresLow s me stored me' = (k : ℕ) → s.word ≡ 3 + 2 * k → me' ≡ (marked_view k Written me.0, me.1)

-- loads of the halves of the length that the seat saw
abbrev pub ReadsHigh : List (Option ℕ) → Step (Unit {0}) → Sat → ℕ → Sat → Type 0
ReadsHigh gains s me found me' =
    (me' ≡ me) × ((k g : ℕ) → s.word ≡ 2 + 2 * k → gain_of gains k ≡ Some g → found ≡ g / 2 ^ 64)

abbrev pub ReadsLow : List (Option ℕ) → Step (Unit {0}) → Sat → ℕ → Sat → Type 0
ReadsLow gains s me found me' =
    (me' ≡ me) × ((k g : ℕ) → s.word ≡ 3 + 2 * k → gain_of gains k ≡ Some g → found ≡ g % 2 ^ 64)

-- a compare-exchange of the best index: the length is Offered where it found what the seat saw; else it found an index
-- that beats this one
abbrev pub Exchanges : List (Option ℕ) → Step (Unit {0}) → Sat → ℕ → Sat → Type 0
Exchanges gains s me found me' = (k : ℕ) → s.second ≡ suc k →
    (found ≡ s.first → me' ≡ (settling_view me.0 k Offered (suc k), me.1))
    × (found ≢ s.first →
    (me' ≡ (looked_view gains (Some k) me.0 found, me.1)) × IsIndex gains found
    × IsTrue (outranks (index_key gains found) (index_key gains me.0.seen)) × (found ≢ suc k))

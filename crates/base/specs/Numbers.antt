-- The number for each refusal and each answer, and tests in their order.
use Rattle.std.specs.Prelude.{ℕ, zero, suc, Bool, cond, Result, Ok, Err}
use Rattle.base.specs.declared.Refusal.{Refusal}
use Rattle.base.specs.declared.Refusal.TheVariants.{Length, Record, Order, Metres, Place, Cranes, Calls, Triangle, Plan, Weights, Buffer, Crane, Driven, Date, Bounds}

infixr 20 ◌then◌
-- the column "Returned" of the refusal table; 12 is paper 3's, 13 paper 5's, 14 paper 10's, 15 paper 11's
abbrev pub refusal_number : Refusal → ℕ
refusal_number Length = 1
refusal_number Record = 2
refusal_number Order = 3
refusal_number Metres = 4
refusal_number Place = 5
refusal_number Cranes = 6
refusal_number Calls = 7
refusal_number Triangle = 8
refusal_number Plan = 9
refusal_number Weights = 10
refusal_number Buffer = 11
refusal_number Crane = 12
refusal_number Driven = 13
refusal_number Date = 14
refusal_number Bounds = 15

-- 0 where no refusal applies, whatever was answered
abbrev pub number_of : {A : Type 0} → Result A Refusal → ℕ
number_of (Ok answer) = 0
number_of (Err r) = refusal_number r

-- the refusal r unless its rule holds
abbrev pub unless : Bool → ℕ → ℕ
unless rule r = cond rule 0 r

-- two tests in order: the refusal of the first, else that of the second
abbrev pub ◌then◌ : ℕ → ℕ → ℕ
◌then◌ zero s = s
◌then◌ (suc r) s = suc r

-- "A refused call returns the number, .. other results 0": the values where no refusal applies, else what goes with its number
abbrev pub unless_refused : {A : Type 0} → ℕ → A → (ℕ → A) → A
unless_refused zero values zeros = values
unless_refused (suc n) values zeros = zeros (suc n)

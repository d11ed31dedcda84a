-- The refusals by number, and the first of several causes that holds.
use Rattle.std.specs.Prelude.{ℕ, Bool, true, false, List, [], ◌∷◌, Some, None, Ok, Err, Option, Result}
use Rattle.points.specs.declared.refusal.Refusal.{Refusal}
use Rattle.points.specs.declared.refusal.Refusal.TheVariants.{Dimensions, Memory, ZeroNumber, Coordinate, LevelSum, Sample, Form, OtherDimensions, UnitWord, InputLength}
use Rattle.points.specs.declared.refusal.Refusal.TheVariants.{PointIn, PointOut, ParentNotIn, PlacesFull, TicketsSpent, NoSuchTicket, PointNotIn, ChildKnown, GridNotEmpty, BufferLength, NoNumeral}

-- the number of each refusal: up to 10 from the input, from 20 on from the state
abbrev pub number_of : Refusal → ℕ
number_of Dimensions = 1
number_of Memory = 2
number_of ZeroNumber = 3
number_of Coordinate = 4
number_of LevelSum = 5
number_of Sample = 6
number_of Form = 7
number_of OtherDimensions = 8
number_of UnitWord = 9
number_of InputLength = 10
number_of PointIn = 20
number_of PointOut = 21
number_of ParentNotIn = 22
number_of PlacesFull = 23
number_of TicketsSpent = 24
number_of NoSuchTicket = 25
number_of PointNotIn = 26
number_of ChildKnown = 27
number_of GridNotEmpty = 28
number_of BufferLength = 29
number_of NoNumeral = 30

-- a refusal, and whether there is cause for it
pub data Cause : Type 0 where
  cause : Refusal → Bool → Cause

-- the refusal of the first cause that holds, if one does
abbrev pub first : List Cause → Option Refusal
first [] = None
first (cause e true ∷ cs) = Some e
first (cause e false ∷ cs) = first cs

-- the refusal that a call answers, if it does
abbrev pub refusal_of : {A : Type 0} → Result A Refusal → Option Refusal
refusal_of (Ok x) = None
refusal_of (Err e) = Some e

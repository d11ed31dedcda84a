-- What a fault tells: its layer, its refusal, its byte and its line.
use Rattle.std.specs.Prelude.{ℕ, ◌+◌, Bool, List, take, count_by, ◌==◌}
use Rattle.points.specs.declared.refusal.Refusal.{Refusal}
use Rattle.points.specs.declared.refusal.Refusal.TheVariants as refusal
use Rattle.reading.specs.declared.fault.FileFault.{FileFault}
use Rattle.reading.specs.declared.fault.FileFault.TheVariants.{Broken, GoesOn, Refused}
use Rattle.reading.specs.declared.fault.FormFault.TheVariants.{Lexical, OtherToken}
use Rattle.reading.specs.declared.layer.Layer.{Layer}
use Rattle.reading.specs.declared.layer.Layer.TheVariants.{Word, Form, End, Grid}
use Rattle.reading.specs.declared.layer.ReadRefusal.{ReadRefusal}
use Rattle.text.specs.declared.token.TokenRule.{TokenRule}
use Rattle.text.specs.declared.token.TokenRule.TheVariants.{TextEnded, NoToken, LongWord, BareMinus, MinusZero, LeadingZero, LongNumeral}

-- the letters W, F, E and G
abbrev pub letter_of : Layer → ℕ
letter_of Word = 87
letter_of Form = 70
letter_of End = 69
letter_of Grid = 71

-- the layer of a token fault: the text ends, or a rule of tokens is broken
abbrev pub layer_of_rule : TokenRule → Layer
layer_of_rule TextEnded = End
layer_of_rule NoToken = Word
layer_of_rule LongWord = Word
layer_of_rule BareMinus = Word
layer_of_rule MinusZero = Word
layer_of_rule LeadingZero = Word
layer_of_rule LongNumeral = Word

abbrev pub layer_of : FileFault → Layer
layer_of (Broken (Lexical t)) = layer_of_rule t.rule
layer_of (Broken (OtherToken p)) = Form
layer_of (GoesOn p) = End
layer_of (Refused e p) = Grid

-- the byte at which a text is refused
abbrev pub place_of : FileFault → ℕ
place_of (Broken (Lexical t)) = t.place
place_of (Broken (OtherToken p)) = p
place_of (GoesOn p) = p
place_of (Refused e p) = p

-- what the grid says of a line, and else that the form is broken
abbrev pub cause_of : FileFault → Refusal
cause_of (Broken f) = refusal.Form
cause_of (GoesOn p) = refusal.Form
cause_of (Refused e p) = e

-- the line end is byte 10
abbrev pub is_line_end : ℕ → Bool
is_line_end b = b == 10

-- a byte's line is 1 and the line ends before it
abbrev pub line_of : List ℕ → ℕ → ℕ
line_of text byte = 1 + count_by is_line_end (take byte text)

-- a refused reading of a text, by its fault
abbrev pub told : List ℕ → FileFault → ReadRefusal
told text f = record { refusal = cause_of f; line = line_of text (place_of f); byte = place_of f; layer = layer_of f }

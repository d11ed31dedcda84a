-- What a step of the lexer answers, by the front of the text.
use Rattle.std.specs.Prelude.{◌≡◌, ℕ, List, ◌++◌, length, drop, Ok, Err, Result}
use Rattle.std.specs.Borrow.{Bor}
use Rattle.text.specs.declared.token.Token.{Token}
use Rattle.text.specs.declared.token.Token.TheVariants.{Open, Close, Space, LineEnd, Word, Numeral}
use Rattle.text.specs.declared.token.TokenFault.{TokenFault}
use Rattle.text.specs.declared.token.TokenRule.{TokenRule}
use Rattle.text.specs.Token.{Tok, mark, word, numeral, bytes, fault, got, front}

-- the token that a value of the code stands for
abbrev pub view : Token → Tok
view Open = mark 40
view Close = mark 41
view Space = mark 32
view LineEnd = mark 10
view (Word w p) = word w.now
view (Numeral n p) = numeral n.now

-- a word and a numeral carry their place
abbrev pub Placed : Token → ℕ → Type 0
Placed Open at = Unit {0}
Placed Close at = Unit {0}
Placed Space at = Unit {0}
Placed LineEnd at = Unit {0}
Placed (Word w p) at = p ≡ at
Placed (Numeral n p) at = p ≡ at

-- the token t is taken from the front of a text at a place, and rest is left
pub record Took (text : List ℕ) (at : ℕ) (t : Token) (rest : List ℕ) : Type 0 where
  pub found : front text ≡ got (view t)
  pub split : text ≡ bytes (view t) ++ rest
  pub left : rest ≡ drop (length (bytes (view t))) text
  pub placed : Placed t at

-- the text breaks the rule that e names, at the place that e names
pub record Fails (text : List ℕ) (at : ℕ) (e : TokenFault) : Type 0 where
  pub broken : front text ≡ fault e.rule
  pub here : e.place ≡ at

-- what is found at the front of a text at a place
abbrev pub Found : List ℕ → ℕ → Result (Token × Bor (List ℕ)) TokenRule → Type 0
Found text at (Ok found) = Took text at found.0 found.1.now
Found text at (Err rule) = front text ≡ fault rule

-- the answer of a step at a text and its place
abbrev pub Next : List ℕ → ℕ → Result (Token × Bor (List ℕ)) TokenFault → Type 0
Next text at (Ok found) = Took text at found.0 found.1.now
Next text at (Err e) = Fails text at e

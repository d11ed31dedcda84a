-- How a cursor goes through a text.
use Rattle.std.specs.Prelude.{◌≡◌, ℕ, ◌+◌, ◌<◌, length, Ok, Err, Result}
use Rattle.text.specs.declared.cursor.Cursor.{Cursor}
use Rattle.text.specs.declared.token.Token.{Token}
use Rattle.text.specs.declared.token.TokenFault.{TokenFault}
use Rattle.text.specs.Token.{bytes}
use Rattle.text.specs.Taken.{view, Took, Fails}

-- the length of the text that a cursor goes through
abbrev pub reach : Cursor → ℕ
reach c = c.place + length c.rest.now

-- n is further on than c in the same text
pub record Onward (c n : Cursor) : Type 0 where
  pub further : c.place < n.place
  pub same_reach : reach n ≡ reach c

-- the answer of a step at the cursor c, and the cursor n after it: a token is taken and passed, or there is none and n is c
abbrev pub Passes : Cursor → Result Token TokenFault → Cursor → Type 0
Passes c (Ok t) n = Took c.rest.now c.place t n.rest.now × (n.place ≡ c.place + length (bytes (view t)))
Passes c (Err e) n = Fails c.rest.now c.place e × (n ≡ c)

-- Points of a sound ledger: what it means that a number is not refused as a point.
use Rattle.std.proofs.Common.{◌≡◌, ℕ, ◌^◌, ◌<◌, ◌≤◌, Bool, true, leb, None}
use Rattle.std.proofs.lemmas.Bool.{not-false, and_parts, ltb-true, ltb-false, leb-true}
use Rattle.points.specs.Axis.{within}
use Rattle.points.specs.Points.{is_point, level_sum}
use Rattle.points.specs.Refusals.{first}
use Rattle.basis.specs.Lists.{IsIn}
use Rattle.ledger.specs.Ledger.{Ledger, is_taken, inner_places, no_point}
use Rattle.ledger.specs.Numbers.{ListedPoints}
use Rattle.ledger.specs.Sound.{Sound}
use Rattle.ledger.proofs.Places.{listed_points}
use Rattle.ledger.proofs.Steps.{first_none}

-- a number that is not refused as a point
pub record LawfulPoint (d p : ℕ) : Type 0 where
  pub small : p < 2 ^ 32
  pub point : is_point d p ≡ true
  pub shallow : level_sum d p ≤ 16

lawful_point : (d p : ℕ) → first (no_point d p) ≡ None → LawfulPoint d p
lawful_point d p e =
    let k = first_none (no_point d p) e in
    record { small = ltb-true p (2 ^ 32) (not-false _ k.0); point = not-false _ k.1.0; shallow = ltb-false 16 (level_sum d p) k.1.1.0 }

pub at_most_four : (d : ℕ) → within 1 4 d ≡ true → d ≤ 4
at_most_four d e = leb-true d 4 (and_parts (leb 1 d) _ e).1

-- a sound ledger
module _ {M : Type 0} (fits : M → Bool) (L : Ledger M) (h : Sound fits L) where
  pub low : L.dims ≤ 4
  low = at_most_four L.dims h.dimensions

  -- what is in or out is lawful
  pub lawful : (p : ℕ) → is_taken (L.known p) ≡ true → LawfulPoint L.dims p
  lawful p t = lawful_point L.dims p (h.lawful p t)

  pub listed : ListedPoints L.dims
  listed = listed_points L.dims low

  -- and an inner place
  pub taken_listed : (p : ℕ) → is_taken (L.known p) ≡ true → IsIn p (inner_places L.dims)
  taken_listed p t = listed.all p (lawful p t).small (lawful p t).point

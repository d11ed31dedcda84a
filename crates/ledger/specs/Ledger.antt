-- The ledger of a grid: which points are in, with their samples, and which are out, under which tickets.
use Rattle.std.specs.Prelude.{ℕ, ◌^◌, Bool, true, false, cond, not, ◌&&◌, ◌||◌, List, ◌∷◌, map, count_by, ◌==◌, nat_eq, nat_lt}
use Rattle.std.specs.List.{list_any}
use Rattle.points.specs.Points.{number, parents, point_causes, place_causes}
use Rattle.points.specs.Refusals.{Cause, cause}
use Rattle.points.specs.declared.refusal.Refusal.TheVariants.{Coordinate}
use Rattle.basis.specs.Axis.{Axis, four_axes}
use Rattle.basis.specs.Grid.{places}

-- under what a point is out: the ticket number, and the session that drew it
pub record Holding : Type 0 where
  pub ticket : ℕ
  pub session : ℕ

-- what is known of a point: it is free, or out, or in with a sample. M are the samples.
pub data Known (M : Type 0) : Type 0 where
  free : Known M
  drawn : Holding → Known M
  entered : M → Known M

-- the dimensions, the grid number, the places for points, the next ticket number, and what is known of each point, by its number
pub record Ledger (M : Type 0) : Type 0 where
  pub dims : ℕ
  pub grid : ℕ
  pub room : ℕ
  pub next : ℕ
  pub known : ℕ → Known M

-- the three figures of a ticket
pub record Ticket : Type 0 where
  pub grid : ℕ
  pub number : ℕ
  pub point : ℕ

-- all 127^d inner places, by number
unfoldable pub inner_places : ℕ → List ℕ
inner_places d = map number (places (four_axes d))

module _ {M : Type 0} where
  -- in
  unfoldable pub is_in : Known M → Bool
  is_in free = false
  is_in (drawn o) = false
  is_in (entered x) = true

  -- out, under a holding that passes the test
  unfoldable pub is_out_by : (Holding → Bool) → Known M → Bool
  is_out_by f free = false
  is_out_by f (drawn o) = f o
  is_out_by f (entered x) = false

  -- out
  abbrev pub is_out : Known M → Bool
  is_out = is_out_by (λ o. true)

  -- in or out
  abbrev pub is_taken : Known M → Bool
  is_taken k = is_in k || is_out k

  -- the axes of the grid
  abbrev pub axes_of : Ledger M → List Axis
  axes_of L = four_axes L.dims

  -- the same ledger, but for what is known of points
  abbrev pub knowing : Ledger M → (ℕ → Known M) → Ledger M
  knowing L f = record { dims = L.dims; grid = L.grid; room = L.room; next = L.next; known = f }

  -- the same knowledge, but for k at the point p
  unfoldable pub put : (ℕ → Known M) → ℕ → Known M → ℕ → Known M
  put f p k q = cond (q == p) k (f q)

  -- the number of points of which what is known passes the test
  unfoldable pub counted : (Known M → Bool) → Ledger M → ℕ
  counted f L = count_by (λ q. f (L.known q)) (inner_places L.dims)

  -- some child of p is in or out: a point of which p is a parent
  unfoldable pub has_child : Ledger M → ℕ → Bool
  has_child L p = list_any (λ q. is_taken (L.known q) && list_any (nat_eq p) (parents q)) (inner_places L.dims)

  -- the ticket's point is out under its grid number and its ticket number
  unfoldable pub is_held : Ledger M → Ticket → Bool
  is_held L t = t.grid == L.grid && is_out_by (λ o. nat_eq o.ticket t.number) (L.known t.point)

-- a number past 32 bits has no four coordinates
abbrev pub word_cause : ℕ → Cause
word_cause n = cause Coordinate (not (nat_lt n (2 ^ 32)))

-- why a number is refused as a point
abbrev pub no_point : ℕ → ℕ → List Cause
no_point d p = word_cause p ∷ point_causes d p

-- why a number is refused as a place
abbrev pub no_place : ℕ → ℕ → List Cause
no_place d y = word_cause y ∷ place_causes d y

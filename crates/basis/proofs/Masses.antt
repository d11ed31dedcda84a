-- The sum of a hat over all places is its integral.
use Rattle.std.proofs.Common.{◌≡◌, ℕ, ◌+◌, ◌*◌, ◌^◌, List, [], ◌∷◌, map, sym, refl, ap, ◌∙◌, ap₂, mul_assoc, add-mul, mul-zero, zero-mul, mul-add, mul_left_comm, arith, pow-add, sum_by}
use Rattle.std.proofs.lemmas.List.Sums.{sum_by-cons, sum_by-append}
use Rattle.basis.specs.Lists.{before, choices}
use Rattle.basis.specs.Axis.{Axis}
use Rattle.basis.specs.Grid.{Inside, places, total, scales}
use Rattle.basis.proofs.AxisLaws.{fine, AllLawful}
use Rattle.basis.proofs.Hats.{fines, tops}

-- a sum of multiples over a list of images
sum_multiples : {X Y : Type 0} (g : X → Y) (c : ℕ) (f : Y → ℕ) (w : X → ℕ) → ((x : X) → f (g x) ≡ c * w x) → (xs : List X) → sum_by f (map g xs) ≡ c * sum_by w xs
sum_multiples g c f w h [] = sym (mul-zero c)
sum_multiples g c f w h (x ∷ xs) =
    sum_by-cons f (g x) (map g xs) ∙ ap₂ ◌+◌ (h x) (sum_multiples g c f w h xs) ∙ sym (ap (λ s. c * s) (sum_by-cons w x xs) ∙ mul-add c (w x) (sum_by w xs))

-- the share of a place
unfoldable pub shares : (ax : List Axis) → AllLawful ax → List ℕ → ℕ
shares [] laws y = 1
shares (a ∷ ax) laws [] = 1
shares (a ∷ ax) laws (k ∷ ks) = laws.0.share k * shares ax laws.1 ks

-- the shares are parts of 2 ^ units
unfoldable pub units : (ax : List Axis) → AllLawful ax → ℕ
units [] laws = 0
units (a ∷ ax) laws = laws.0.unit + units ax laws.1

-- one place's part of the integral of the hat of q
unfoldable pub weigh : (ax : List Axis) → AllLawful ax → List ℕ → List ℕ → ℕ
weigh ax laws q y = shares ax laws y * fines ax laws q y

swap : (w x y z : ℕ) → w * x * (y * z) ≡ w * y * (x * z)
swap w x y z = simp (mul_assoc, mul_left_comm)

before_sum : (a : Axis) (ax : List Axis) (laws : AllLawful (a ∷ ax)) (k : ℕ) (ks : List ℕ) (bs : List ℕ) (qs : List (List ℕ))
    → sum_by (weigh (a ∷ ax) laws (k ∷ ks)) (before bs qs) ≡ sum_by (λ y. laws.0.share y * fine a laws.0.top k y) bs * sum_by (weigh ax laws.1 ks) qs
unfolding before fines shares weigh
before_sum a ax laws k ks [] qs = sym (zero-mul (sum_by (weigh ax laws.1 ks) qs))
before_sum a ax laws k ks (b ∷ bs) qs =
    let f = weigh (a ∷ ax) laws (k ∷ ks) in
    let w = weigh ax laws.1 ks in
    let part : ℕ → ℕ = λ y. laws.0.share y * fine a laws.0.top k y in
    sum_by-append f (map (λ q. b ∷ q) qs) (before bs qs)
    ∙ ap₂ ◌+◌
    (sum_multiples (λ q. b ∷ q) (part b) f w (λ q. swap (laws.0.share b) (shares ax laws.1 q) (fine a laws.0.top k b) (fines ax laws.1 ks q)) qs)
    (before_sum a ax laws k ks bs qs)
    ∙ sym (ap (λ s. s * sum_by w qs) (sum_by-cons part b bs) ∙ add-mul (part b) (sum_by part bs) (sum_by w qs))

pub places_sum : (ax : List Axis) (laws : AllLawful ax) (q : List ℕ) → Inside ax q → sum_by (weigh ax laws q) (places ax) * 2 ^ scales ax q ≡ 2 ^ (tops ax laws + units ax laws)
unfolding places choices fines shares weigh tops units total
places_sum [] laws q i = refl
places_sum (a ∷ ax) laws [] i = absurd i
places_sum (a ∷ ax) laws (k ∷ ks) i =
    ap₂ ◌*◌ (before_sum a ax laws k ks a.coords (places ax)) (pow-add 2 (a.scale k) (scales ax ks))
    ∙ swap _ (sum_by (weigh ax laws.1 ks) (places ax)) (2 ^ a.scale k) (2 ^ scales ax ks)
    ∙ ap₂ ◌*◌ (laws.0.whole k i.0) (places_sum ax laws.1 ks i.1)
    ∙ sym (pow-add 2 (laws.0.top + laws.0.unit) (tops ax laws.1 + units ax laws.1))
    ∙ ap (λ e. 2 ^ e) (omega arith)

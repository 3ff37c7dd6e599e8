-- Parts that are kept while there is room for them, and how many there are.
use Rattle.std.proofs.Common.{◌≡◌, ◌≢◌, ℕ, ◌+◌, ◌<◌, ◌≤◌, Bool, true, false, List, [], ◌∷◌, ◌++◌, length, take, drop}
use Rattle.std.proofs.Common.{get_or, map, zero, suc}
use Rattle.std.proofs.Common.{refl, sym, ap, ◌∙◌, arith, length-append, append-nil, length-take, add-one}
use Rattle.std.proofs.Math.Seq.{take_all, take-suc}
use Rattle.std.proofs.lemmas.List.{take-append-le, length-map}
use Rattle.std.proofs.lemmas.List.Elements.{filter-append}
use Rattle.std.specs.List.{filter}

-- what is kept of one more part
more : (p : List ℕ → Bool) (parts : List (List ℕ)) (n : ℕ) (d : List ℕ) → n < length parts →
    filter p (take (n + 1) parts) ≡ filter p (take n parts) ++ filter p (get_or parts n d ∷ [])
more p parts n d low =
    rw add-one (ap (filter p) (take-suc parts n d low)
    ∙ filter-append p (take n parts) (get_or parts n d ∷ []))

-- where there is room, a part that says something is kept
pub kept : (p : List ℕ → Bool) (parts items : List (List ℕ)) (n : ℕ) (part : List ℕ) →
    n < length parts →
    p part ≡ true → part ≡ get_or parts n part → length items ≢ 11 →
    items ≡ take 11 (filter p (take n parts)) →
    items ++ part ∷ [] ≡ take 11 (filter p (take (n + 1) parts))
kept p parts items n part low t is room e =
    let xs = filter p (take n parts) in
    let few : length xs < 11 = omega (arith, ap length e, length-take 11 xs, room) in
    let all : items ≡ xs = e ∙ take_all 11 xs (omega (arith, few)) in
    let one : filter p (get_or parts n part ∷ []) ≡ part ∷ [] = rw (← is) (rw t refl) in
    let longer : filter p (take (n + 1) parts) ≡ xs ++ part ∷ [] =
    more p parts n part low ∙ ap (λ r. xs ++ r) one in
    rw (longer, all)
    (sym (take_all 11 (xs ++ part ∷ []) (omega (arith, few, length-append xs (part ∷ [])))))

-- a part that says nothing is not kept
pub unneeded : (p : List ℕ → Bool) (parts items : List (List ℕ)) (n : ℕ) (part : List ℕ) →
    n < length parts →
    p part ≡ false → part ≡ get_or parts n part →
    items ≡ take 11 (filter p (take n parts)) → items ≡ take 11 (filter p (take (n + 1) parts))
unneeded p parts items n part low t is e =
    let none : filter p (get_or parts n part ∷ []) ≡ [] = rw (← is) (rw t refl) in
    e ∙ ap (take 11) (sym (more p parts n part low
    ∙ ap (λ r. filter p (take n parts) ++ r) none ∙ append-nil (filter p (take n parts))))

-- where there is no room, none is kept
pub no_room : (p : List ℕ → Bool) (parts items : List (List ℕ)) (n : ℕ) (part : List ℕ) →
    n < length parts →
    length items ≡ 11 →
    items ≡ take 11 (filter p (take n parts)) → items ≡ take 11 (filter p (take (n + 1) parts))
no_room p parts items n part low full e =
    let xs = filter p (take n parts) in
    let many : 11 ≤ length xs = omega (arith, ap length e, length-take 11 xs, full) in
    e ∙ sym (ap (take 11) (more p parts n part low) ∙ take-append-le 11 xs _ many)

-- few parts are all
pub all_of : (parts few : List (List ℕ)) → few ≡ take 11 parts → length few ≤ 10 → few ≡ parts
all_of parts few e low =
    e ∙ take_all 11 parts (omega (arith, ap length e, length-take 11 parts, low))

-- a part, and those behind it
pub split_off : {A : Type 0} (f : A → List ℕ) (xs : List A) (n : ℕ) (d : A) → n < length xs →
    map f (drop n xs) ≡ f (get_or xs n d) ∷ map f (drop (suc n) xs)
split_off f [] n d low = absurd (omega arith)
split_off f (x ∷ xs) zero d low = refl
split_off f (x ∷ xs) (suc n) d low = split_off f xs n d (omega arith)

-- behind the last part there is none
pub no_more : {A : Type 0} (f : A → List ℕ) (xs : List A) (n : ℕ) → length xs ≤ n →
    map f (drop n xs) ≡ []
no_more f [] zero low = refl
no_more f [] (suc n) low = refl
no_more f (x ∷ xs) zero low = absurd (omega arith)
no_more f (x ∷ xs) (suc n) low = no_more f xs n (omega arith)

-- numbers from one on
abbrev pub upward : ℕ → ℕ → List ℕ
upward k zero = []
upward k (suc n) = k ∷ upward (suc k) n

-- as many parts as there are
pub listed : {A : Type 0} (f : A → List ℕ) (xs : List A) (k n : ℕ) (d : A) → k + n ≡ length xs →
    map f (drop k xs) ≡ map (λ i. f (get_or xs i d)) (upward k n)
listed f xs k zero d e = no_more f xs k (omega (arith, e))
listed f xs k (suc n) d e =
    split_off f xs k d (omega (arith, e))
    ∙ ap (λ r. f (get_or xs k d) ∷ r) (listed f xs (suc k) n d (omega (arith, e)))

-- a part of those that are told
pub told_at : {A : Type 0} (f : A → List ℕ) (xs : List A) (n : ℕ) (d : A) (told : List (List ℕ)) →
    map f xs ≡ told → n < length told → f (get_or xs n d) ≡ get_or told n []
told_at f xs n d told e low =
    sym (nth xs n (omega (arith, length-map xs f, ap length e)))
    ∙ ap (λ parts. get_or parts n []) e
  where
    nth : (xs : _) (n : ℕ) → n < length xs → get_or (map f xs) n [] ≡ f (get_or xs n d)
    nth [] n low = absurd (omega arith)
    nth (x ∷ xs) zero low = refl
    nth (x ∷ xs) (suc n) low = nth xs n (omega arith)

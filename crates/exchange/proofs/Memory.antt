-- What stands in a memory after receipts and a head are written to it, and what is read back.
use Rattle.std.proofs.Common.{◌≡◌, ℕ, ◌+◌, ◌*◌, ◌≤◌, List, [], ◌∷◌, ◌++◌, length, take, drop, sym, refl, ap, ◌∙◌, ap₂, suc-mul, add-mul, zero-mul, arith, take-add}
use lib.Seq.{paste, take-append-add, take-paste}
use Rattle.std.specs.List.{flat_map}
use Rattle.std.proofs.lemmas.List.{append_assoc, append-nil, append_cancel_left, flat_map_more, length-append, get_or_at, drop_at, take_at, take_all, take-append-le, take-take, length-take-le}
use Rattle.exchange.specs.Layout.{head_length, receipt_at, receipt_bytes, receipt_house, receipt_length, receipt_seal}
use Rattle.exchange.specs.Law.{Receipt, receipts_from}

-- receipts, one after the other
abbrev pub flat : List Receipt → List ℕ
flat xs = flat_map (λ (x : Receipt). receipt_bytes x.house x.seal) xs

-- every seal has so many bytes
abbrev pub Sized : ℕ → List Receipt → Type 0
Sized size [] = Unit {0}
Sized size (x ∷ xs) = (length x.seal ≡ size) × Sized size xs

-- the receipt at place i of a bundle
abbrev pub receipt_of : ℕ → List ℕ → ℕ → Receipt
receipt_of size b i = record { house = receipt_house size b i; seal = receipt_seal size b i }

-- these receipts stand after the head, c of them
abbrev pub Written : ℕ → ℕ → List ℕ → List Receipt → Type 0
Written size c m xs = take (receipt_at size c) m ≡ take head_length m ++ flat xs

next_receipt : (size c : ℕ) → receipt_at size (c + 1) ≡ receipt_at size c + receipt_length size
next_receipt size c = let e = add-mul c 1 (1 + size) in omega arith

-- a write leaves what stands before it
take_before : (m s : List ℕ) (i at n : ℕ) → i ≤ at → at ≤ length m → take i (paste m at s n) ≡ take i m
take_before m s i at n below room =
    let all : length (take at m) ≡ at = length-take-le at m room in
    let within : i ≤ length (take at m) = omega arith in
    let far : i ≤ length (take at m ++ take n s) = simp length-append (omega arith) in
    take-append-le i (take at m ++ take n s) _ far ∙ take-append-le i (take at m) (take n s) within ∙ take-take i at m below

pub none_written : (size : ℕ) (m : List ℕ) → Written size 0 m []
none_written size m = ap (λ (i : ℕ). take i m) (let z : receipt_at size 0 ≡ head_length = omega (arith, zero-mul (1 + size)) in z) ∙ sym (append-nil (take head_length m))

-- one more receipt after those that stand there
pub more_written : (size c i : ℕ) (m z : List ℕ) (xs : List Receipt) → receipt_at size (c + 1) ≤ length m → length z ≡ size → Written size c m xs
    → Written size (c + 1) (paste m (receipt_at size c) (receipt_bytes i z) (receipt_length size)) (xs ++ (record { house = i; seal = z } ∷ []))
more_written size c i m z xs room long before =
    let at = receipt_at size c in
    let x : Receipt = record { house = i; seal = z } in
    let next = next_receipt size c in
    let here : at ≤ length m = omega arith in
    let all : length (receipt_bytes i z) ≤ receipt_length size = omega arith in
    let whole : receipt_length size ≤ length (receipt_bytes i z) = omega arith in
    let headed : head_length ≤ at = omega arith in
    let front = take_before m (receipt_bytes i z) head_length at (receipt_length size) headed here in
    ap (λ (n : ℕ). take n (paste m at (receipt_bytes i z) (receipt_length size))) next
    ∙ take-paste m at (receipt_bytes i z) (receipt_length size) here whole
    ∙ ap₂ (λ (x y : List ℕ). x ++ y) before (take_all (receipt_length size) (receipt_bytes i z) all)
    ∙ flat_map_more (λ (x : Receipt). receipt_bytes x.house x.seal) (take head_length m) xs x
    ∙ ap (λ (y : List ℕ). y ++ flat (xs ++ (x ∷ []))) (sym front)

-- the head before them
pub headed_written : (size c : ℕ) (m head : List ℕ) (xs : List Receipt) → length head ≡ head_length → Written size c m xs
    → take (receipt_at size c) (paste m 0 head head_length) ≡ head ++ flat xs
headed_written size c m head xs long before =
    let n = c * receipt_length size in
    let rest : take n (drop head_length m) ≡ flat xs = append_cancel_left (take head_length m) _ _ (sym (take-add head_length n m) ∙ before) in
    let all : length head ≤ head_length = omega arith in
    ap₂ (λ (i : ℕ) (y : List ℕ). take (i + n) (y ++ drop head_length m)) (sym long) (take_all head_length head all)
    ∙ take-append-add head (drop head_length m) n
    ∙ ap (λ (y : List ℕ). head ++ y) rest

pub flat_length : (size : ℕ) (xs : List Receipt) → Sized size xs → length (flat xs) ≡ length xs * receipt_length size
flat_length size [] sized = sym (zero-mul (1 + size))
flat_length size (x ∷ xs) sized =
    let e = sized.0 in
    simp (length-append, suc-mul) (omega (arith, flat_length size xs sized.1))

same_receipt : (x y : Receipt) → x.house ≡ y.house → x.seal ≡ y.seal → x ≡ y
same_receipt x y p q = λ t. record { house = p t; seal = q t }

-- a receipt that stands at place i is read from there
reads_receipt : (size i : ℕ) (before after : List ℕ) (x : Receipt) → length x.seal ≡ size → length before ≡ receipt_at size i
    → receipt_of size (before ++ (receipt_bytes x.house x.seal ++ after)) i ≡ x
reads_receipt size i before after x sized at =
    let at_seal = before ++ (x.house ∷ []) in
    let one_on : length at_seal ≡ receipt_at size i + 1 = simp length-append (omega arith) in
    same_receipt _ x (get_or_at before x.house (x.seal ++ after) 0 (receipt_at size i) at)
    (ap (λ (y : List ℕ). take size (drop (receipt_at size i + 1) y)) (sym (append_assoc before (x.house ∷ []) (x.seal ++ after)))
    ∙ ap (take size) (drop_at at_seal (x.seal ++ after) (receipt_at size i + 1) one_on)
    ∙ take_at x.seal after size sized)

-- receipts that stand in a bundle from place i on are read from it
pub reads_flat : (size i : ℕ) (b before : List ℕ) (xs : List Receipt) → Sized size xs → length before ≡ receipt_at size i → b ≡ before ++ flat xs
    → receipts_from size b (length xs) i ≡ xs
unfolding receipts_from
reads_flat size i b before [] sized at e = refl
reads_flat size i b before (x ∷ xs) sized at e =
    let bytes = receipt_bytes x.house x.seal in
    let one : length x.seal ≡ size = sized.0 in
    let long : length (before ++ bytes) ≡ receipt_at size (i + 1) = simp length-append (omega (arith, next_receipt size i)) in
    let others = reads_flat size (i + 1) b (before ++ bytes) xs sized.1 long (e ∙ sym (append_assoc before bytes (flat xs))) in
    ap₂ (λ (y : Receipt) (ys : List Receipt). y ∷ ys) (ap (λ (y : List ℕ). receipt_of size y i) e ∙ reads_receipt size i before (flat xs) x one at) others

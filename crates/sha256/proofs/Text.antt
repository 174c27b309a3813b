-- Laws of the hexadecimal text, one byte at a time.
use Rattle.std.proofs.Common.{◌≡◌, ℕ, ◌+◌, ◌*◌, ◌/◌, ◌%◌, ◌^◌, ◌-◌, ◌<◌, false, List, [], ◌∷◌, ◌++◌, length, get_or, take, set, sym, refl, ap, ◌∙◌, arith}
use Rattle.std.proofs.lemmas.List.{take_more, take_more_set, length-set, append_assoc}
use Rattle.std.specs.declared.fmt.Formatter.{Formatter}
use Rattle.std.specs.Fmt.{HasWritten, padded_integral, format_spec, digits}
use Rattle.std.proofs.Output.{has_written_append, has_written_of_eq}
use Rattle.std.proofs.lemmas.Fmt.{hex_byte}
use Rattle.sha256.specs.Text.{hex_digit, hex}

-- what `{:02x}` writes of a byte
abbrev pub two_digits : ℕ → List ℕ
two_digits b = padded_integral (format_spec 32 0 4 2 (2 ^ 64 - 1)) false [] (digits 16 false b)

pub hex_none : hex [] ≡ []
unfolding hex
hex_none = refl

hex_push : (bs : List ℕ) (b : ℕ) → hex (bs ++ (b ∷ [])) ≡ hex bs ++ (hex_digit (b / 16) ∷ hex_digit (b % 16) ∷ [])
unfolding hex
hex_push [] b = refl
hex_push (x ∷ bs) b = ap (λ (v : List ℕ). hex_digit (x / 16) ∷ hex_digit (x % 16) ∷ v) (hex_push bs b)

-- one turn of the loop that writes it
pub written_more : {W : Type 0} {took : W → List ℕ → W → Type 0} (f g h : Formatter W) (bytes : List ℕ) (b : ℕ)
    → b < 256
    → HasWritten took f (hex bytes) g → HasWritten took g (two_digits b) h → HasWritten took f (hex (bytes ++ (b ∷ []))) h
written_more f g h bytes b small before turn =
    has_written_of_eq _ _ _ _ _ (ap (λ (v : List ℕ). hex bytes ++ v) (hex_byte false b small) ∙ sym (hex_push bytes b)) (has_written_append _ _ _ _ _ _ before turn)

-- one turn of the loop that writes them by their places
pub hex_more : (text bytes : List ℕ) (i high low : ℕ)
    → 2 * i + 1 < length text → i < length bytes → take (2 * i) text ≡ hex (take i bytes)
    → high ≡ hex_digit (get_or bytes i 0 / 16) → low ≡ hex_digit (get_or bytes i 0 % 16)
    → take (2 * (i + 1)) (set (set text (2 * i) high) (2 * i + 1) low) ≡ hex (take (i + 1) bytes)
hex_more text bytes i high low room within e f g =
    let place : 2 * (i + 1) ≡ 2 * i + 1 + 1 = omega arith in
    let first : 2 * i < length text = omega arith in
    let second : 2 * i + 1 < length (set text (2 * i) high) = simp length-set (omega arith) in
    ap (λ (k : ℕ). take k (set (set text (2 * i) high) (2 * i + 1) low)) place
    ∙ take_more_set (set text (2 * i) high) (2 * i + 1) low second
    ∙ ap (λ (v : List ℕ). v ++ (low ∷ [])) (take_more_set text (2 * i) high first)
    ∙ append_assoc (take (2 * i) text) (high ∷ []) (low ∷ [])
    ∙ (let pair : take (2 * i) text ++ (high ∷ low ∷ []) ≡ hex (take i bytes) ++ (hex_digit (get_or bytes i 0 / 16) ∷ hex_digit (get_or bytes i 0 % 16) ∷ []) = cc in pair)
    ∙ sym (hex_push (take i bytes) (get_or bytes i 0))
    ∙ ap hex (sym (take_more bytes i 0 within))

-- Where tokens stand in a text.
use Rattle.std.proofs.Common.{◌≡◌, ◌==◌, ◌∙◌, ℕ, zero, suc, ◌+◌, ◌<◌, ◌≤◌, List, [], ◌∷◌, length, get_or, ap, arith, length-append}
use Rattle.std.proofs.lemmas.List.{take_all}
use Rattle.std.proofs.lemmas.List.Sums.{count_by-le-length}
use Rattle.smv_lexer.specs.Text.{Piece, Cuts, IsBadByteAt, IsTooLargeAt, line_feeds, size_of}
use Rattle.smv_lexer.specs.View.{views}
use Rattle.smv_lexer.specs.declared.token.Token.{Token}
use Rattle.smv_session.specs.Source.{line_at, token_line}

-- pieces and what is left are the text
cuts_size : (bytes : List ℕ) (ps : List Piece) (rest : List ℕ) → Cuts bytes ps rest → size_of ps + length rest ≡ length bytes
cuts_size bytes [] rest h = let e : length bytes ≡ length rest = ap length h in omega (arith, e)
cuts_size bytes (p ∷ ps) rest h =
    let after = cuts_size h.0 ps rest h.4 in
    let here : length bytes ≡ length p.text + length h.0 = ap length h.1 ∙ length-append p.text h.0 in
    omega (arith, after, here)

pub bad_within : (bytes : List ℕ) (at : ℕ) → IsBadByteAt bytes at → at ≤ length bytes
bad_within bytes at h = let size = cuts_size bytes h.0 (h.1 ∷ h.2) h.3 in omega (arith, size, h.6)

pub large_within : (bytes : List ℕ) (at : ℕ) → IsTooLargeAt bytes at → at ≤ length bytes
large_within bytes at h = let size = cuts_size bytes h.0 _ h.4 in omega (arith, size, h.9)

pub line_of_token : (bytes : List ℕ) (ts : List Token) (at : ℕ) (t : Token) → at < length ts → t ≡ get_or ts at t → t.line ≡ token_line bytes (views ts) at
line_of_token bytes [] at t below is = absurd (omega (arith, below))
line_of_token bytes (u ∷ us) zero t below is = ap (λ (x : Token). x.line) is
line_of_token bytes (u ∷ us) (suc k) t below is = line_of_token bytes us k t (omega (arith, below)) is

pub line_of_end : (bytes : List ℕ) (ts : List Token) (at : ℕ) → length ts ≤ at → line_at bytes (length bytes) ≡ token_line bytes (views ts) at
line_of_end bytes [] zero above = ap (λ (xs : List ℕ). 1 + line_feeds xs) (take_all (length bytes) bytes (omega arith))
line_of_end bytes [] (suc k) above = ap (λ (xs : List ℕ). 1 + line_feeds xs) (take_all (length bytes) bytes (omega arith))
line_of_end bytes (u ∷ us) zero above = absurd (omega (arith, above))
line_of_end bytes (u ∷ us) (suc k) above = line_of_end bytes us k (omega (arith, above))

-- no more line feeds than bytes
pub few_feeds : (bytes : List ℕ) → line_feeds bytes ≤ length bytes
few_feeds bytes = count_by-le-length (λ b. b == 10) bytes

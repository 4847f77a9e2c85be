use Rattle.std.proofs.Common.{◌≡◌, ℕ, List, [], ◌∷◌, ◌++◌, flat_map, refl, sym, ap, ◌∙◌, append_assoc}
use Rattle.var_types.specs.Texts.{spaced}
use Rattle.report_text.proofs.Cut.{cut, uncut}
use Rattle.report_text.proofs.WordBytes.{is_line_byte, is_word_byte, AreWords, AreLines}

-- there are words, at least one
abbrev pub HaveWords : List (List ℕ) → Type 0
HaveWords [] = ⊥
HaveWords (w ∷ ws) = AreWords (w ∷ ws)

-- words of one text, with a space between each two
pub same_words : (ws vs : List (List ℕ)) → HaveWords ws → HaveWords vs → spaced ws ≡ spaced vs → ws ≡ vs
same_words [] vs h k e = absurd h
same_words (w ∷ ws) [] h k e = absurd k
same_words (w ∷ []) (v ∷ []) h k e = ap (λ (text : List ℕ). text ∷ []) e
same_words (w ∷ []) (v ∷ x ∷ vs) h k e = absurd (uncut is_word_byte 32 w v (spaced (x ∷ vs)) refl h.0 e)
same_words (w ∷ y ∷ ws) (v ∷ []) h k e = absurd (uncut is_word_byte 32 v w (spaced (y ∷ ws)) refl k.0 (sym e))
same_words (w ∷ y ∷ ws) (v ∷ x ∷ vs) h k e =
    let parts = cut is_word_byte 32 w v (spaced (y ∷ ws)) (spaced (x ∷ vs)) refl h.0 k.0 e in
    let first : w ≡ v = parts.0 in
    let rest : y ∷ ws ≡ x ∷ vs = same_words (y ∷ ws) (x ∷ vs) h.1 k.1 parts.1 in
    cc

-- a line's text, ended by LF
abbrev pub ended : List ℕ → List ℕ
ended line = line ++ 10 ∷ []

-- lines behind lines
pub AreLines-append : (ls ms : List (List ℕ)) → AreLines ls → AreLines ms → AreLines (ls ++ ms)
AreLines-append [] ms h k = k
AreLines-append (l ∷ ls) ms h k = (h.0, AreLines-append ls ms h.1 k)

-- lines of one text
pub same_lines : (ls ms : List (List ℕ)) → AreLines ls → AreLines ms → flat_map ended ls ≡ flat_map ended ms → ls ≡ ms
same_lines [] [] h k e = refl
same_lines [] (m ∷ ms) h k e =
    absurd (uncut is_line_byte 10 [] m (flat_map ended ms) refl refl (e ∙ append_assoc m (10 ∷ []) (flat_map ended ms)))
same_lines (l ∷ ls) [] h k e =
    absurd (uncut is_line_byte 10 [] l (flat_map ended ls) refl refl (sym e ∙ append_assoc l (10 ∷ []) (flat_map ended ls)))
same_lines (l ∷ ls) (m ∷ ms) h k e =
    let parts =
    cut is_line_byte 10 l m (flat_map ended ls) (flat_map ended ms) refl h.0 k.0
    (sym (append_assoc l (10 ∷ []) (flat_map ended ls)) ∙ e ∙ append_assoc m (10 ∷ []) (flat_map ended ms)) in
    let first : l ≡ m = parts.0 in
    let rest : ls ≡ ms = same_lines ls ms h.1 k.1 parts.1 in
    cc

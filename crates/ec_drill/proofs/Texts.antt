-- The text of lines, and what follows of bytes that are appended in turn.
use Rattle.std.proofs.Common.{◌≡◌, ℕ, List, [], ◌∷◌, ◌++◌, Option, Some, None, refl, sym, ap, ◌∙◌, append_assoc, append-nil}
use Rattle.std.specs.Io.KnownBytes.{Appends}
use Rattle.ec_history.specs.declared.shown.Shown.{Shown}
use Rattle.ec_protocol.specs.Drill.{joined}
use Rattle.ec_words.specs.OfText.Lines.{shown_text, text_of}

pub nothing : (held : Option (List ℕ)) → Appends held held []
nothing None = tt
nothing (Some xs) = sym (append-nil xs)

pub text_of-append : (xs ys : List Shown) → text_of (xs ++ ys) ≡ text_of xs ++ text_of ys
text_of-append [] ys = refl
text_of-append (x ∷ xs) ys = ap (λ t. shown_text x ++ t) (text_of-append xs ys) ∙ sym (append_assoc (shown_text x) (text_of xs) (text_of ys))

-- lines, then other lines and a part of one
pub texts_then : (xs ys : List Shown) (last : List ℕ) → text_of xs ++ (text_of ys ++ last) ≡ text_of (xs ++ ys) ++ last
texts_then xs ys last = sym (append_assoc (text_of xs) (text_of ys) last) ∙ ap (λ t. t ++ last) (sym (text_of-append xs ys))

pub joined-append : (ps qs : List (List Shown)) → joined (ps ++ qs) ≡ joined ps ++ joined qs
joined-append [] qs = refl
joined-append (p ∷ ps) qs = ap (λ l. p ++ l) (joined-append ps qs) ∙ sym (append_assoc p (joined ps) (joined qs))

pub joined-push : (ps : List (List Shown)) (p : List Shown) → joined (ps ++ p ∷ []) ≡ joined ps ++ p
joined-push ps p = joined-append ps (p ∷ []) ∙ ap (λ l. joined ps ++ l) (append-nil p)

-- Lists of a state's numbers, one item more.
use Rattle.std.proofs.Common.{◌≡◌, ℕ, ◌+◌, ◌<◌, List, [], ◌∷◌, ◌++◌, length, get_or, take, Option, None, Some, refl, sym, ap, ◌∙◌, append_assoc}
use Rattle.std.proofs.lemmas.List.{append-nil, take_more, map-append}
use Rattle.ec_codes.specs.Images.{ids_under}
use Rattle.ec_sessions.specs.Slots.{Slots, unspent_of, all_unspent}
use Rattle.ec_sessions.specs.declared.slot.Slot.{Slot}
use Rattle.ec_durable.specs.WellFormed.{sessions_of}

unspent_push : (xs : Slots) (s : Option Slot) → all_unspent (xs ++ s ∷ []) ≡ all_unspent xs ++ unspent_of s
unspent_push [] s = append-nil (unspent_of s)
unspent_push (x ∷ xs) s = ap (λ (l : List ℕ). unspent_of x ++ l) (unspent_push xs s) ∙ sym (append_assoc (unspent_of x) (all_unspent xs) (unspent_of s))

sessions_push : (xs : Slots) (s : Option Slot) → sessions_of (xs ++ s ∷ []) ≡ sessions_of xs ++ sessions_of (s ∷ [])
sessions_push [] s = refl
sessions_push (None ∷ xs) s = sessions_push xs s
sessions_push (Some sl ∷ xs) s = ap (λ (l : List ℕ). sl.session ∷ l) (sessions_push xs s)

next_of : (slots : Slots) (i : ℕ) (x : Option Slot) → i < length slots → x ≡ get_or slots i x → take i slots ++ x ∷ [] ≡ take (i + 1) slots
next_of slots i x lt is = ap (λ (y : Option Slot). take i slots ++ y ∷ []) is ∙ sym (take_more slots i x lt)

pub unspent_more : (slots : Slots) (i : ℕ) (x : Option Slot) (start old new : List ℕ) → i < length slots → x ≡ get_or slots i x → old ≡ start ++ all_unspent (take i slots) → new ≡ old ++ unspent_of x → new ≡ start ++ all_unspent (take (i + 1) slots)
unspent_more slots i x start old new lt is so_far made =
    made ∙ ap (λ (l : List ℕ). l ++ unspent_of x) so_far ∙ append_assoc start (all_unspent (take i slots)) (unspent_of x)
    ∙ ap (λ (l : List ℕ). start ++ l) (sym (unspent_push (take i slots) x) ∙ ap (λ (l : Slots). all_unspent l) (next_of slots i x lt is))

pub sessions_more : (slots : Slots) (i : ℕ) (x : Option Slot) (old new : List ℕ) → i < length slots → x ≡ get_or slots i x → old ≡ sessions_of (take i slots) → new ≡ old ++ sessions_of (x ∷ []) → new ≡ sessions_of (take (i + 1) slots)
sessions_more slots i x old new lt is so_far made =
    made ∙ ap (λ (l : List ℕ). l ++ sessions_of (x ∷ [])) so_far ∙ sym (sessions_push (take i slots) x) ∙ ap (λ (l : Slots). sessions_of l) (next_of slots i x lt is)

pub entries_more : (es : List (List ℕ × ℕ)) (i : ℕ) (d : List ℕ × ℕ) (start old new : List ℕ) → i < length es → old ≡ start ++ ids_under (take i es) → new ≡ old ++ (get_or es i d).1 ∷ [] → new ≡ start ++ ids_under (take (i + 1) es)
entries_more es i d start old new lt so_far made =
    made ∙ ap (λ (l : List ℕ). l ++ (get_or es i d).1 ∷ []) so_far ∙ append_assoc start (ids_under (take i es)) ((get_or es i d).1 ∷ [])
    ∙ ap (λ (l : List ℕ). start ++ l) (sym (map-append (λ (e : List ℕ × ℕ). e.1) (take i es) (get_or es i d ∷ [])) ∙ ap (λ (l : List (List ℕ × ℕ)). ids_under l) (sym (take_more es i d lt)))

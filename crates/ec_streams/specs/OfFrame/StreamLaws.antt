-- Streams of frames: whatever the pieces, the messages are the same.
use Rattle.std.proofs.Common.{◌≡◌, ℕ, ◌+◌, ◌≤◌, List, [], ◌∷◌, ◌++◌, flat_map, length, drop, refl, sym, ◌∙◌, ap, subst, arith, append_assoc, append-nil, length-append, length-drop}
use Rattle.std.proofs.lemmas.Bool.Decides.{nat_tests}
use Rattle.std.proofs.lemmas.List.{drop_at}
use Rattle.std.specs.List.{AllByRecursion}
use Rattle.ec_streams.specs.OfFrame.Frames.{frame, IsBody, Held, taken_kept, bytes_moved}
use Rattle.ec_streams.specs.OfFrame.Streams.{Event, Fed, Took, Runs, stream, taken, all_moved, IsAtEnd, AreMessages}
use Rattle.ec_streams.specs.OfFrame.FrameLaws.{one_front}

-- the bytes held and those that come are the frames taken and the bytes left
pub stream-taken : (old : List ℕ) (events : List Event) (new : List ℕ) → Runs old events new → old ++ stream events ≡ flat_map frame (taken events) ++ new
stream-taken old [] new r = append-nil old ∙ r
stream-taken old (Fed piece ∷ events) new r = sym (append_assoc old piece (stream events)) ∙ stream-taken (old ++ piece) events new r
stream-taken old (Took body ∷ events) new r =
    ap (λ x. x ++ stream events) r.1.spelled
    ∙ append_assoc (frame body) r.0 (stream events)
    ∙ ap (λ x. frame body ++ x) (stream-taken r.0 events new r.2)
    ∙ sym (append_assoc (frame body) (flat_map frame (taken events)) new)

pub bodies-taken : (old : List ℕ) (events : List Event) (new : List ℕ) → Runs old events new → AllByRecursion IsBody (taken events)
bodies-taken old [] new r = tt
bodies-taken old (Fed piece ∷ events) new r = bodies-taken (old ++ piece) events new r
bodies-taken old (Took body ∷ events) new r = (r.1.small, bodies-taken r.0 events new r.2)

pub messages : (events : List Event) (held : List ℕ) → Runs [] events held → IsAtEnd held → AreMessages (stream events) (taken events) held
messages events held r last = record { whole = stream-taken [] events held r; each = bodies-taken [] events held r; last = last }

pub one_reading : (bytes rest left : List ℕ) (bodies others : List (List ℕ)) → AreMessages bytes bodies rest → AreMessages bytes others left → (bodies ≡ others) × (rest ≡ left)
one_reading bytes rest left [] [] g h = (refl, sym g.whole ∙ h.whole)
one_reading bytes rest left [] (c ∷ cs) g h =
    absurd (g.last c (flat_map frame cs ++ left) (record { small = h.each.0; spelled = sym g.whole ∙ h.whole ∙ append_assoc (frame c) (flat_map frame cs) left }))
one_reading bytes rest left (b ∷ bs) [] g h =
    absurd (h.last b (flat_map frame bs ++ rest) (record { small = g.each.0; spelled = sym h.whole ∙ g.whole ∙ append_assoc (frame b) (flat_map frame bs) rest }))
one_reading bytes rest left (b ∷ bs) (c ∷ cs) g h =
    let f = one_front bytes b c (flat_map frame bs ++ rest) (flat_map frame cs ++ left)
    (record { small = g.each.0; spelled = g.whole ∙ append_assoc (frame b) (flat_map frame bs) rest })
    (record { small = h.each.0; spelled = h.whole ∙ append_assoc (frame c) (flat_map frame cs) left }) in
    let i = one_reading (flat_map frame bs ++ rest) rest left bs cs
    (record { whole = refl; each = g.each.1; last = g.last })
    (record { whole = f.1; each = h.each.1; last = h.last }) in
    (ap (λ x. x ∷ bs) f.0 ∙ ap (λ x. c ∷ x) i.0, i.1)

pub split_piece : (old new xs ys : List ℕ) (events : List Event) → Runs old (Fed (xs ++ ys) ∷ events) new → Runs old (Fed xs ∷ Fed ys ∷ events) new
split_piece old new xs ys events r = subst (λ x. Runs x events new) (sym (append_assoc old xs ys)) r

pub joined_piece : (old new xs ys : List ℕ) (events : List Event) → Runs old (Fed xs ∷ Fed ys ∷ events) new → Runs old (Fed (xs ++ ys) ∷ events) new
joined_piece old new xs ys events r = subst (λ x. Runs x events new) (append_assoc old xs ys) r

-- a byte is taken before one is moved
moves_or_keeps : (held : Held) → bytes_moved held + taken_kept held ≤ held.taken
moves_or_keeps held = grind (arith, nat_tests)

pub moved-within : (held : Held) (events : List Event) (new : List ℕ) → Runs held.left events new → all_moved held events ≤ held.taken + length held.left + length (stream events)
moved-within held [] new r = omega arith
moved-within held (Fed piece ∷ events) new r =
    let next : Held = record { taken = taken_kept held; left = held.left ++ piece } in
    omega (arith, moved-within next events new r, moves_or_keeps held, length-append held.left piece, length-append piece (stream events))
moved-within held (Took body ∷ events) new r =
    let size = length (frame body) in
    let next : Held = record { taken = held.taken + size; left = drop size held.left } in
    let rest : drop size held.left ≡ r.0 = ap (drop size) r.1.spelled ∙ drop_at (frame body) r.0 size refl in
    omega (arith, moved-within next events new (subst (λ x. Runs x events new) (sym rest) r.2), length-drop size held.left, ap length r.1.spelled, length-append (frame body) r.0)

pub moved_once : (events : List Event) (new : List ℕ) → Runs [] events new → all_moved (record { taken = 0; left = [] }) events ≤ length (stream events)
moved_once events new r = omega (arith, moved-within (record { taken = 0; left = [] }) events new r)

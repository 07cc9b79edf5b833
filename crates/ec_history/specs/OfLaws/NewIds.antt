-- When a history stays legal with other ids for its new objects.
use Rattle.std.specs.Prelude.{◌≡◌, ◌⊎◌, ◌+◌, ◌≤◌, ℕ, T, true, false, not, List, [], ◌∷◌, ◌++◌, length}
use Rattle.ec_volume.specs.Image.{is_gone}
use Rattle.ec_volume.specs.Update.{has_operand, is_make, member}
use Rattle.ec_volume.specs.Volume.{Fits, Images, WellFormed, after}
use Rattle.ec_history.specs.History.{Base, Each, History, Op, Throughout, issued, issued_by, kept, outcome, updates}
use Rattle.ec_history.specs.Legal.{IsLegal, is_making}
use Rattle.ec_history.specs.Lines.{AreCovered, IsStored}
use Rattle.ec_history.specs.Placing.{place}
use Rattle.ec_history.specs.declared.entry.Entry.{Entry}
use Rattle.ec_history.specs.declared.entry.Entry.TheVariants as entry
use Rattle.ec_history.specs.declared.shown.Shown.{Shown}
use Rattle.ec_history.specs.OfLaws.Renaming.{image_by}
use Rattle.ec_history.specs.OfLaws.Placing.{made_ids, IsReading}

-- none of these operations has the id as an operand
abbrev pub Clear : ℕ → List Op → Type 0
Clear x os = Each (λ o. has_operand x o.update ≡ false) os

-- the entry is a call that makes an object, or would, but for its answer
abbrev pub WouldMake : Base → History → ℕ × Entry → Type 0
WouldMake base past (p, entry.Call c b l begun cl a op) = is_making (outcome base (kept base past) p cl).update ≡ true
WouldMake base past (p, entry.Loss c b ns) = ⊥

-- At such an entry the id for the new object is the same, or none is made, and neither id is an operand of an operation that was issued before.
abbrev pub MayChange : Images → (ℕ → ℕ) → (ℕ → ℕ) → History → ℕ × Entry → Type 0
MayChange v f q past e =
    let base : Base = record { volume = v; fresh = f } in
    WouldMake base past e → (q e.0 ≡ f e.0) ⊎ (Each (λ o. is_make o.update ≡ false) (issued_by base (kept base past) e) × Clear (f e.0) (issued base past) × Clear (q e.0) (issued base past))

-- Where it's so at each entry, the history is legal with both, and what its lines cover and store is the same.
abbrev pub IdlesMayChange : Type 0
IdlesMayChange = (v : Images) (f q : ℕ → ℕ) (ss : List Shown) → Throughout (MayChange v f q) [] (place ss)
    → ((most : ℕ) → IsLegal (record { volume = v; fresh = f }) most (place ss) → IsLegal (record { volume = v; fresh = q }) most (place ss))
    × (AreCovered (record { volume = v; fresh = f }) ss → AreCovered (record { volume = v; fresh = q }) ss)
    × ((w : Images) → IsStored (record { volume = v; fresh = f }) ss w → IsStored (record { volume = v; fresh = q }) ss w)

abbrev pub IsNewId : Images → (ℕ → ℕ) → History → ℕ × Entry → Type 0
IsNewId v f past e =
    let base : Base = record { volume = v; fresh = f } in
    WouldMake base past e → T (is_gone (v (f e.0))) × Each (λ o. member (f e.0) (made_ids o.update) ≡ false) (issued base past)

-- Where it's so at each entry, each id may be exchanged for the place of its call, above all ids of the volume: histories stay legal, what lines cover and store is
-- the same, and what is kept fits as before.
abbrev pub IdsArePlaces : Type 0
IdsArePlaces = (v : Images) (f : ℕ → ℕ) (n : ℕ) (ss : List Shown) → WellFormed v → ((x : ℕ) → T (not (is_gone (v x))) → x ≤ n) → Throughout (IsNewId v f) [] (place ss)
    → ((most : ℕ) → IsLegal (record { volume = v; fresh = f }) most (place ss) → IsLegal (record { volume = v; fresh = λ p. n + p }) most (place ss))
    × (AreCovered (record { volume = v; fresh = f }) ss → AreCovered (record { volume = v; fresh = λ p. n + p }) ss)
    × ((w : Images) → IsStored (record { volume = v; fresh = f }) ss w → IsStored (record { volume = v; fresh = λ p. n + p }) ss w)
    × (Fits v (updates (kept (record { volume = v; fresh = f }) (place ss))) → Fits v (updates (kept (record { volume = v; fresh = λ p. n + p }) (place ss))))

-- One more line: where its entries come last, and the ids at the places so far are the same, the ids stay new if those of the line's entries are.
abbrev pub NewIdsGrow : Type 0
NewIdsGrow = (v : Images) (f q : ℕ → ℕ) (ss : List Shown) (s : Shown) (es : History) → place (ss ++ s ∷ []) ≡ place ss ++ es → ((p : ℕ) → p ≤ length ss → q p ≡ f p)
    → Throughout (IsNewId v f) [] (place ss) → Throughout (IsNewId v q) (place ss) es → Throughout (IsNewId v q) [] (place (ss ++ s ∷ []))

-- A late answer: its entry comes in before the loss, which names its operation, too. Where the same is kept behind the loss, the ids stay new if that of the entry is,
-- and it's none of those behind the loss.
abbrev pub NewIdsBesideLate : Type 0
NewIdsBesideLate = (v : Images) (f : ℕ → ℕ) (h : History) (e : ℕ × Entry) (at c b : ℕ) (ns ms : List ℕ) (more : History) → let base : Base = record { volume = v; fresh = f } in
    kept base (h ++ e ∷ (at, entry.Loss c b ms) ∷ []) ≡ kept base (h ++ (at, entry.Loss c b ns) ∷ [])
    → Throughout (IsNewId v f) [] (h ++ (at, entry.Loss c b ns) ∷ more) → IsNewId v f h e
    → Throughout (λ past d. WouldMake base past d → Each (λ o. member (f d.0) (made_ids o.update) ≡ false) (issued_by base (kept base h) e)) (h ++ (at, entry.Loss c b ns) ∷ []) more
    → Throughout (IsNewId v f) [] (h ++ e ∷ (at, entry.Loss c b ms) ∷ more)

-- Where the ids of a history are new, there is such a reading, and each object of what is kept, with its ids so read, is that of what is kept with places as ids.
abbrev pub NewIdsAreRead : Type 0
NewIdsAreRead = (v : Images) (f : ℕ → ℕ) (n : ℕ) (ss : List Shown) → WellFormed v → ((x : ℕ) → T (not (is_gone (v x))) → x ≤ n) → Throughout (IsNewId v f) [] (place ss)
    → (r : ℕ → ℕ) × IsReading v f n (place ss) r
    × ((x : ℕ) → after v (updates (kept (record { volume = v; fresh = λ p. n + p }) (place ss))) (r x) ≡ image_by r (after v (updates (kept (record { volume = v; fresh = f }) (place ss))) x))

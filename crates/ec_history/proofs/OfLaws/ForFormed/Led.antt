-- Objects that names lead to from the root, and changes that leave them so.
use Rattle.std.proofs.Common.{◌≡◌, refl, sym, ap, subst, ◌∙◌, inl, inr, ◌⊎◌, ℕ, Bool, true, false, cond, List, [], ◌∷◌, ◌++◌, Option, Some, None}
use Rattle.ec_volume.specs.Entries.{entry}
use Rattle.ec_volume.specs.Image.{is_gone, entries_of}
use Rattle.ec_volume.specs.Update.{root}
use Rattle.ec_volume.specs.Volume.{Images, Names, AllReached, reach}
use Rattle.ec_volume.specs.declared.image.Image.{Image}
use Rattle.ec_volume.specs.declared.image.Image.TheVariants.{Gone, File, Dir}
use Rattle.ec_history.proofs.OfLaws.ForFormed.Entries.{no_entry}
use Rattle.ec_history.proofs.OfLaws.ForFormed.Change.{IsLive, Change}
use Rattle.ec_base.proofs.Options.{one_entry}

-- Directories and names that lead on from them, the last one first.
abbrev pub Steps : Type 0
Steps = List (ℕ × List ℕ)

-- they lead from the root to the object
abbrev pub Led : Images → Steps → ℕ → Type 0
Led v [] o = o ≡ root
Led v (e ∷ es) o = Names v e.0 e.1 o × Led v es e.0

abbrev pub IsLed : Images → ℕ → Type 0
IsLed v o = (es : Steps) × Led v es o

live-gone : (i : Image) → IsLive i → is_gone i ≡ false
live-gone Gone h = absurd h
live-gone (File m s w bs) h = refl
live-gone (Dir m s w es) h = refl

-- what has an entry is live
pub has-entry : (i : Image) (n : List ℕ) (o : ℕ) → entry (entries_of i) n ≡ Some o → IsLive i
has-entry Gone n o h = no_entry o h
has-entry (File m s w bs) n o h = no_entry o h
has-entry (Dir m s w es) n o h = tt

-- what no names lead from has no entry
pub empty-unnamed : (i : Image) (n : List ℕ) (o : ℕ) → entries_of i ≡ [] → entry (entries_of i) n ≡ Some o → ⊥
empty-unnamed i n o e h = no_entry o (sym (ap (λ es. entry es n) e) ∙ h)

module _ (v : Images) where
  -- the last name of a path
  reach-one : (d o : ℕ) (n : List ℕ) → Names v d n o → IsLive (v o) → reach v d (n ∷ []) ≡ Some o
  reach-one d o n h l =
      let named : reach v d (n ∷ []) ≡ cond (is_gone (v o)) None (Some o) = ap (λ x. elim x [ None ↦ None | Some p ↦ reach v p [] ]) h in
      named ∙ ap (λ b. cond b None (Some o)) (live-gone (v o) l)

  reach-append : (r d o : ℕ) (n : List ℕ) (path : List (List ℕ)) → Names v d n o → IsLive (v o) → reach v r path ≡ Some d → reach v r (path ++ n ∷ []) ≡ Some o
  reach-append r d o n [] h l = go (is_gone (v r))
    where
      go : (b : Bool) → cond b None (Some r) ≡ Some d → reach v r (n ∷ []) ≡ Some o
      go true e = no_entry d e
      go false e = subst (λ x. reach v x (n ∷ []) ≡ Some o) (sym (one_entry r d e)) (reach-one d o n h l)
  reach-append r d o n (m ∷ ms) h l =
      elim (entry (entries_of (v r)) m) as (λ x. elim x [ None ↦ None | Some p ↦ reach v p ms ] ≡ Some d → elim x [ None ↦ None | Some p ↦ reach v p (ms ++ n ∷ []) ] ≡ Some o) [
        | None ↦ λ e. no_entry d e
        | Some p ↦ λ e. reach-append p d o n ms h l e
      ]

  pub led-reached : (es : Steps) (o : ℕ) → Led v es o → IsLive (v o) → (path : List (List ℕ)) × (reach v root path ≡ Some o)
  led-reached [] o h l = ([], subst (λ x. reach v x [] ≡ Some o) h (ap (λ b. cond b None (Some o)) (live-gone (v o) l)))
  led-reached (e ∷ es) o h l =
      let (path, at) = led-reached es e.0 h.1 (has-entry (v e.0) e.1 o h.0) in
      (path ++ e.1 ∷ [], reach-append root e.0 o e.1 path h.0 l at)

  pub reached-led : (path : List (List ℕ)) (r o : ℕ) (es : Steps) → Led v es r → reach v r path ≡ Some o → IsLed v o
  reached-led [] r o es h = go (is_gone (v r))
    where
      go : (b : Bool) → cond b None (Some r) ≡ Some o → IsLed v o
      go true e = no_entry o e
      go false e = (es, subst (Led v es) (one_entry r o e) h)
  reached-led (n ∷ ns) r o es h = go (entry (entries_of (v r)) n) refl (λ p k e. reached-led ns p o ((r, n) ∷ es) k e)
    where
      go : (x : Option ℕ) → entry (entries_of (v r)) n ≡ x → ((p : ℕ) → Led v ((r, n) ∷ es) p → reach v p ns ≡ Some o → IsLed v o) → elim x [ None ↦ None | Some p ↦ reach v p ns ] ≡ Some o → IsLed v o
      go None q rest e = no_entry o e
      go (Some p) q rest e = rest p (q, h) e

  pub all-led : AllReached v → (o : ℕ) → IsLive (v o) → IsLed v o
  all-led a o l = let (path, e) = a o l in reached-led path root o [] refl e

-- A change in which new names are those of objects that are led to.
module _ (v w : Images) (New : ℕ → List ℕ → ℕ → Type 0) (Stay : ℕ → Type 0) (c : Change v w New Stay)
    (keeps : (d : ℕ) (n : List ℕ) (o : ℕ) → Names v d n o → ((e : ℕ) × (m : List ℕ) × New e m d) ⊎ Stay d) where
  -- a directory with an entry stays live
  pub dir-lives : (d : ℕ) (n : List ℕ) (o : ℕ) → Names v d n o → IsLive (w d)
  dir-lives d n o h = elim (keeps d n o h) [
    | inl x ↦ c.new_live x.0 x.1 d x.2
    | inr s ↦ c.live_up d (has-entry (v d) n o h) s
  ]

  -- Among objects with a property that goes up, where the bridges hold.
  pub led-on : (P : ℕ → Type 0) → ((d : ℕ) (n : List ℕ) (o : ℕ) → Names v d n o → P o → P d)
      → ((d e : ℕ) (n m : List ℕ) (o : ℕ) → P o → Names v d n o → New e m o → IsLed w d → IsLed w e)
      → (es : Steps) (o : ℕ) → P o → Led v es o → IsLive (w o) → IsLed w o
  led-on P up bridge [] o p h l = ([], h)
  led-on P up bridge (x ∷ es) o p h l =
      let before : IsLed w x.0 = led-on P up bridge es x.0 (up x.0 x.1 o h.0 p) h.1 (dir-lives x.0 x.1 o h.0) in
      elim (c.live_down o l) [
        | inl new ↦
            let here : IsLed w new.0 = bridge x.0 new.0 x.1 new.1 o p h.0 new.2 before in
            ((new.0, new.1) ∷ here.0, (c.there new.0 new.1 o new.2, here.1))
        | inr old ↦ (x ∷ before.0, (c.stays x.0 x.1 o h.0 old.1, before.1))
      ]

  -- so each object is reached
  pub led-all : ((o : ℕ) → IsLive (w o) → IsLive (v o) → IsLed w o)
      → ((e : ℕ) (m : List ℕ) (o : ℕ) → New e m o → IsLive (v o) ⊎ IsLed w e) → AllReached w
  led-all all new o l = led-reached w (led o l).0 o (led o l).1 l
    where
      led : (o : ℕ) → IsLive (w o) → IsLed w o
      led o l = elim (c.live_down o l) [
        | inl x ↦ elim (new x.0 x.1 o x.2) [
          | inl old ↦ all o l old
          | inr here ↦ ((x.0, x.1) ∷ here.0, (c.there x.0 x.1 o x.2, here.1))
        ]
        | inr old ↦ all o l old.0
      ]

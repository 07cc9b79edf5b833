-- Volumes that agree with the images held, and what verdicts say of a call on them.
use Rattle.std.specs.Prelude.{◌≡◌, ◌≢◌, ◌⊎◌, ℕ, T, Bool, true, false, not, ◌&&◌, List, [], ◌∷◌, ◌++◌, Option, None, Some}
use Rattle.ec_base.specs.declared.ids.Hold.{Hold}
use Rattle.ec_base.specs.declared.ids.Hold.TheVariants.{Read, Write}
use Rattle.ec_volume.specs.Image.{is_id}
use Rattle.ec_volume.specs.Update.{member, operands}
use Rattle.ec_volume.specs.Volume.{Images}
use Rattle.ec_volume.specs.declared.image.Kind.{Kind}
use Rattle.ec_volume.specs.declared.update.Update.{Update}
use Rattle.ec_volume.specs.declared.update.Update.TheVariants.{Make}
use Rattle.ec_plain.specs.declared.call.Call.{Call}
use Rattle.ec_plain.specs.declared.call.Outcome.{Outcome}
use Rattle.ec_cache.specs.Cache.{holds, images_held}
use Rattle.ec_cache.specs.declared.state.CacheState.{CacheState}
use Rattle.ec_cache.specs.OfReport.Report.{Owed, due}
use Rattle.ec_cache.specs.OfResolve.Resolve.{lacks_id, met}

-- w has the images of v at these objects
abbrev pub Agree : Images → Images → List ℕ → Type 0
Agree v w os = (o : ℕ) → T (member o os) → w o ≡ v o

-- The images that the cache may show are those of the volume v, and the fresh id, if there is one, has one image in both.
pub record Shows (k : CacheState) (fresh : Option ℕ) (v : Images) : Type 0 where
  pub images : (o : ℕ) → T (holds o Read k) → v o ≡ images_held k o
  pub unmade : (o : ℕ) → T (is_id o fresh) → v o ≡ images_held k o

-- A new object may have the id: it's the fresh one, or any where there is none.
abbrev pub IsFor : Option ℕ → ℕ → Type 0
IsFor fresh id = (x : ℕ) → fresh ≡ Some x → id ≡ x

-- x is the first in the list that passes the test
pub record IsFirst (p : ℕ → Bool) (x : ℕ) (xs : List ℕ) : Type 0 where
  pub front : List ℕ
  pub back : List ℕ
  pub whole : xs ≡ front ++ x ∷ back
  pub passes : p x ≡ true
  pub before : (y : ℕ) → T (member y front) → p y ≡ false

-- no token for reading the object is held; the new object isn't read
abbrev pub is_unread : CacheState → Option ℕ → ℕ → Bool
is_unread k fresh x = not (is_id x fresh) && not (holds x Read k)

abbrev pub is_unwritten : CacheState → ℕ → Bool
is_unwritten k x = not (holds x Write k)

-- The call with this outcome touched these objects, but for a new one that has no id.
abbrev pub AreTouchedBy : ℕ → Outcome → List ℕ → Bool → Type 0
AreTouchedBy id out xs true = out.touched ≡ xs ++ id ∷ []
AreTouchedBy id out xs false = out.touched ≡ xs

abbrev pub AreTouched : Option ℕ → ℕ → Outcome → List ℕ → Type 0
AreTouched fresh id out xs = AreTouchedBy id out xs (lacks_id fresh out.update)

-- All that the call touches is held for reading.
pub record AllIsRead (k : CacheState) (fresh : Option ℕ) (id : ℕ) (out : Outcome) (xs : List ℕ) : Type 0 where
  pub touched : AreTouched fresh id out xs
  pub held : (x : ℕ) → T (member x xs) → is_unread k fresh x ≡ false

-- Something is owed on what the call meets: these objects, and these operations.
pub record IsOwed (k : CacheState) (owed : Owed) (cl : Call) (fresh : Option ℕ) (id : ℕ) (out : Outcome) (ns xs : List ℕ) : Type 0 where
  pub touched : List ℕ
  pub read : AllIsRead k fresh id out touched
  pub shown : xs ≡ met owed cl touched
  pub reported : ns ≡ due xs owed
  pub some : ns ≢ []

-- All that the call touches is held for reading, and nothing is owed on what it meets.
pub record IsClear (k : CacheState) (owed : Owed) (cl : Call) (fresh : Option ℕ) (id : ℕ) (out : Outcome) : Type 0 where
  pub touched : List ℕ
  pub read : AllIsRead k fresh id out touched
  pub unowed : due (met owed cl touched) owed ≡ []

-- The object is the first that the call's update has to write and that isn't held for writing.
pub record IsUnwritten (k : CacheState) (owed : Owed) (cl : Call) (fresh : Option ℕ) (id : ℕ) (out : Outcome) (x : ℕ) : Type 0 where
  pub clear : IsClear k owed cl fresh id out
  pub update : Update
  pub issued : out.update ≡ Some update
  pub first : IsFirst (is_unwritten k) x (operands update)

-- The object is the first that the call touches and that isn't held, or, where all are, the first that its update has to write.
abbrev pub IsNeeded : CacheState → Owed → Call → Option ℕ → ℕ → Outcome → ℕ → Hold → Type 0
IsNeeded k owed cl fresh id out x h = ((h ≡ Read) × IsFirst (is_unread k fresh) x out.touched) ⊎ ((h ≡ Write) × IsUnwritten k owed cl fresh id out x)

-- The call makes an object in a directory that is held for writing, and there is no id; these objects are touched beside the new one.
pub record IsWithoutId (k : CacheState) (owed : Owed) (fresh : Option ℕ) (id : ℕ) (out : Outcome) (xs : List ℕ) : Type 0 where
  pub none : fresh ≡ None
  pub dir : ℕ
  pub name : List ℕ
  pub kind : Kind
  pub made : out.update ≡ Some (Make dir name id kind)
  pub touched : out.touched ≡ xs ++ id ∷ []
  pub read : (x : ℕ) → T (member x xs) → T (holds x Read k)
  pub written : T (holds dir Write k)
  pub unowed : due xs owed ≡ []

-- All that the outcome needs is held, and nothing is owed on what the call meets.
pub record IsReady (k : CacheState) (owed : Owed) (cl : Call) (fresh : Option ℕ) (out : Outcome) : Type 0 where
  pub read : (x : ℕ) → T (member x out.touched) → is_unread k fresh x ≡ false
  pub unowed : due (met owed cl out.touched) owed ≡ []
  pub written : (u : Update) → out.update ≡ Some u → (x : ℕ) → T (member x (operands u)) → T (holds x Write k)
  pub made : (dir : ℕ) (name : List ℕ) (x : ℕ) (kind : Kind) → out.update ≡ Some (Make dir name x kind) → fresh ≡ Some x

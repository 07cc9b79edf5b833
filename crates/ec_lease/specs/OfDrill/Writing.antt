-- No public clause cites this module: it says how lines are written.
use Rattle.std.specs.Prelude.{◌≡◌, ◌⊎◌, ℕ, List, [], ◌∷◌, ◌++◌, Option}
use Rattle.std.specs.Io.KnownBytes.{Appends}
use Rattle.ec_base.specs.Outside.{Rose}
use Rattle.ec_lease_machine.specs.OfWords.Text.{lease_text, lease_texts}
use Rattle.ec_lease_machine.specs.declared.world.LeaseShown.{LeaseShown}
use Rattle.ec_lease.specs.OfDrill.Drill.{IsFrontOf, IsPartOf}
use Rattle.ec_lease.specs.declared.drill.writing.Cut.{Cut}
use Rattle.ec_lease.specs.declared.drill.writing.Cut.TheVariants as cut

-- why no more of this text was written than these bytes
abbrev pub CutBy : Cut → List ℕ → List ℕ → ℕ → ℕ → Type 0
CutBy cut.Disk text last before now = ⊥
CutBy cut.Sink text last before now = Rose before now × IsFrontOf text last
CutBy cut.NoMemory text last before now = (last ≡ []) ⊎ IsFrontOf text last

pub record CutText (c : Cut) (text : List ℕ) (held now : Option (List ℕ)) (before later : ℕ) : Type 0 where
  pub last : List ℕ
  pub bytes : Appends held now last
  pub why : CutBy c text last before later

-- of these lines some were written, and a part of the next one
pub record CutLines (c : Cut) (lines : List LeaseShown) (held now : Option (List ℕ)) (before later : ℕ) : Type 0 where
  pub written : List LeaseShown
  pub first : LeaseShown
  pub more : List LeaseShown
  pub front : lines ≡ written ++ first ∷ more
  pub last : List ℕ
  pub bytes : Appends held now (lease_texts written ++ last)
  pub why : CutBy c (lease_text first) last before later

-- why a run was cut off, with these bytes of a line
abbrev pub IsCause : Cut → List ℕ → ℕ → ℕ → ℕ → ℕ → Type 0
IsCause cut.Disk last writes writes_after faults faults_after = Rose faults faults_after × (last ≡ [])
IsCause cut.Sink last writes writes_after faults faults_after = Rose writes writes_after
IsCause cut.NoMemory last writes writes_after faults faults_after = Unit {0}

-- Of these lines a front was written, and of the next one these bytes. Nothing is said of lines that aren't known.
pub record WroteFront (Known : Type 0) (lines : List LeaseShown) (last : List ℕ) (held now : Option (List ℕ)) : Type 0 where
  pub shown : List LeaseShown
  pub unwritten : List LeaseShown
  pub front : Known → (rest : List LeaseShown) × (lines ≡ shown ++ (unwritten ++ rest))
  pub bytes : Appends held now (lease_texts shown ++ last)
  pub part : IsPartOf unwritten last

-- so it was, by this cause
pub record CutFront (c : Cut) (Known : Type 0) (lines : List LeaseShown) (held now : Option (List ℕ)) (writes later faults faults_after : ℕ) : Type 0 where
  pub last : List ℕ
  pub cause : IsCause c last writes later faults faults_after
  pub wrote : WroteFront Known lines last held now

-- The rest of a path is one.
use Rattle.std.proofs.Common.{ℕ, List, drop, arith, length-drop}
use Rattle.std.proofs.lemmas.List.Elements.{All-drop}
use Rattle.ec_base.specs.Names.{IsName}
use Rattle.ec_base.specs.Paths.{IsPath}

pub rest_is_path : (names : ℕ) (path : List (List ℕ)) → IsPath path → IsPath (drop names path)
rest_is_path names path is = (omega (arith, is.0, length-drop names path), All-drop IsName names path is.1)

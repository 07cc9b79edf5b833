use Rattle.ec_servernode.proofs.shared.sender_of.Goals as goal

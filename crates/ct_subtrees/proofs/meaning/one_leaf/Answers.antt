use Rattle.ct_subtrees.proofs.Serial.{subtree_hash_shows_one_leaf}
use Rattle.ct_subtrees.proofs.meaning.one_leaf.Goals as goal

pub returns : goal.returns
returns c = subtree_hash_shows_one_leaf

use Rattle.ct_verify.proofs.meaning.heads.Goals as goal
use Rattle.ct_verify.proofs.Viewing.{one_head_shows_one_leaf, consistent_heads_show_one_leaf}

pub returns-clause-one : goal.returns-clause-one
returns-clause-one c = one_head_shows_one_leaf

pub returns-clause-two : goal.returns-clause-two
returns-clause-two c = consistent_heads_show_one_leaf

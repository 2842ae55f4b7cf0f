use Rattle.ct_data_tiles.proofs.name_writing.+push_leading_groups.Given as goal

abbrev pub decreases-push_leading_groups : goal.decreases-push_leading_groups
decreases-push_leading_groups l = l.groups

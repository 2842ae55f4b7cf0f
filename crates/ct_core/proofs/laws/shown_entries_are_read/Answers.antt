use Rattle.ct_core.proofs.laws.shown_entries_are_read.Goals as goal

pub returns : goal.returns
returns c log lawful k e below =
    let texts = lawful.texts k e below in
    record {
      leaf = λ r read. c.written_leaves_are_read.ensures _ _ _ r texts.leaf read;
      chain = c.written_chains_are_read.ensures _ _ texts.chain;
    }

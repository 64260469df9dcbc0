use Rattle.share_tree.proofs.root.Root.same.Goals as goal

pub returns-in-Two-Two : goal.returns-in-Two-Two
returns-in-Two-Two g c = rw (c.in-Two-Two.is-0, c.in-Two-Two.is-1) c.same.ensures

pub returns-in-Five-Five : goal.returns-in-Five-Five
returns-in-Five-Five g c = rw (c.in-Five-Five.is-0, c.in-Five-Five.is-1) c.same-in-Five-Five.ensures

pub returns-in-Eight-Eight : goal.returns-in-Eight-Eight
returns-in-Eight-Eight g c = rw (c.in-Eight-Eight.is-0, c.in-Eight-Eight.is-1) c.same-in-Eight-Eight.ensures

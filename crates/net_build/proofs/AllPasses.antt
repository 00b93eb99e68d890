-- The passes of the three steps, one after the other, are all passes.
use Rattle.std.proofs.Common.{List, ℕ, None, inl, inr}
use Rattle.net_build.specs.declared.faults.BuildFault.{BuildFault}
use Rattle.net_build.specs.declared.faults.BuildFault.TheVariants.{Fault, NoMemory}
use Rattle.first_fault.specs.Answers.{IsFaultOrNoMemory}
use Rattle.net_build.specs.Passes.{build_fault}
use Rattle.net_build.specs.Table.{node_pass, links_pass, all_passes}
use Rattle.net_build.specs.TableCalls.{tables_pass, passes_behind_nodes}
use Rattle.net_parser.specs.Trees.{BlockTree}

pub nodes_refused : (text : List ℕ) (tree : List BlockTree) (fault : BuildFault) → IsFaultOrNoMemory build_fault (node_pass text tree) fault → IsFaultOrNoMemory build_fault (all_passes text tree) fault
unfolding all_passes
nodes_refused text tree NoMemory h = tt
nodes_refused text tree (Fault at kind) h = inl h

pub diagram_refused : (text : List ℕ) (tree : List BlockTree) (fault : BuildFault) → node_pass text tree None → IsFaultOrNoMemory build_fault (passes_behind_nodes text tree) fault → IsFaultOrNoMemory build_fault (all_passes text tree) fault
unfolding all_passes
diagram_refused text tree NoMemory n h = tt
diagram_refused text tree (Fault at kind) n h = inr (n, h)

pub all_clear : (text : List ℕ) (tree : List BlockTree) → node_pass text tree None → passes_behind_nodes text tree None → all_passes text tree None
unfolding all_passes
all_clear text tree n h = (n, h)

pub links_refused : (text : List ℕ) (tree : List BlockTree) (fault : BuildFault) → IsFaultOrNoMemory build_fault (links_pass text tree) fault → IsFaultOrNoMemory build_fault (passes_behind_nodes text tree) fault
links_refused text tree NoMemory h = tt
links_refused text tree (Fault at kind) (inl h) = inl h
links_refused text tree (Fault at kind) (inr (b, inl h)) = inr (b, inl h)
links_refused text tree (Fault at kind) (inr (b, inr (c, inl h))) = inr (b, inr (c, inl h))
links_refused text tree (Fault at kind) (inr (b, inr (c, inr (d, h)))) = inr (b, inr (c, inr (d, inl h)))

pub values_refused : (text : List ℕ) (tree : List BlockTree) (fault : BuildFault) → links_pass text tree None → IsFaultOrNoMemory build_fault (tables_pass text tree) fault → IsFaultOrNoMemory build_fault (passes_behind_nodes text tree) fault
values_refused text tree NoMemory l h = tt
values_refused text tree (Fault at kind) l h = inr (l.0, inr (l.1.0, inr (l.1.1.0, inr (l.1.1.1, h))))

pub diagram_clear : (text : List ℕ) (tree : List BlockTree) → links_pass text tree None → tables_pass text tree None → passes_behind_nodes text tree None
diagram_clear text tree l v = (l.0, (l.1.0, (l.1.1.0, (l.1.1.1, v))))

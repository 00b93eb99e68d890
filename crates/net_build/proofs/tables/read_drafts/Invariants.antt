use Rattle.std.proofs.Common.{◌≡◌, ◌<◌, ℕ, length, get_or}
use Rattle.std.specs.List.{range_with_len}
use Rattle.net_build.specs.declared.drafts.Draft.{Draft}
use Rattle.net_build.specs.TableParts.{IsDraftAt, drafts_pass, node_part_at}
use Rattle.first_fault.proofs.Leading.{Leads}
use Rattle.first_fault.proofs.Items.{EachFrom}
use Rattle.net_build.proofs.tables.read_drafts.Given as goal

-- the drafts of the nodes so far, and the rows of those to come
abbrev pub invariant-loop-node : goal.invariant-loop-node
invariant-loop-node l = record {
  lead : Leads (EachFrom (node_part_at l.text l.nodes.heads l.links) (range_with_len 0 (length l.nodes.heads)) l.node) (drafts_pass l.text l.nodes.heads l.links);
  len : length l.drafts.items ≡ l.node;
  are : (v : ℕ) (d : Draft) → v < l.node → IsDraftAt l.text l.nodes.heads l.links v (get_or l.drafts.items v d);
}

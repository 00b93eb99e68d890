-- Parents and potentials as a pair of lists.
use Rattle.std.specs.Prelude.{ℕ, List, Option, refl}
use Rattle.std.specs.Coded.{Coded, code_by, coded_list, coded_option, coded×, coded_ℕ}
use Rattle.net_parser.specs.Trees.{BlockTree}
use Rattle.net_parser.specs.TreeCode.{block_code}
use Rattle.net_build.specs.Stages.{LinkLists}

-- parents and potentials stand for the pair of their lists, and come back from it
abbrev pub link_code : Coded LinkLists
link_code = code_by (List (List ℕ) × List (Option BlockTree))
    (coded× (coded_list (coded_list coded_ℕ)) (coded_list (coded_option block_code)))
    (λ l. (l.parents, l.potentials)) (λ p. record { parents = p.0; potentials = p.1 }) (λ _. refl)

use Rattle.std.proofs.Common.{inl, inr}
use Rattle.size_precheck.proofs.joints.Joint.put.Goals as goal

pub returns : goal.returns
returns c = record {
  set = λ u. (
    (λ m. let h = (c.difference-self.ensures u).0 m in ((c.union.ensures u).0 h.0, h.1)),
    (λ h. (c.difference-self.ensures u).1 ((c.union.ensures u).1 h.0, h.1)),
  );
  tables = λ x. (
    (λ m. elim ((c.insert.ensures.all x).0 m) [ inl k ↦ inl ((c.difference-self-2.ensures x).0 k) | inr e ↦ inr e ]),
    (λ h. (c.insert.ensures.all x).1 (elim h [ inl k ↦ inl ((c.difference-self-2.ensures x).1 k) | inr e ↦ inr e ])),
  );
}

pub insert-requires : goal.insert-requires
insert-requires c = c.requires

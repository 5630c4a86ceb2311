use Rattle.std.proofs.Common.{inl, inr, SFits, w64, rules}
use Rattle.wrench_geometry.proofs.Wraps.{left_two, left_three, left_is, right_two, right_three}
use Rattle.wrench_geometry.proofs.Wraps.{right_is}
use Rattle.wrench_geometry.proofs.vector.dot.Goals as goal

pub overflow_add-result : goal.overflow_add-result
overflow_add-result c = elim c.requires [
  | inl a ↦ let rx : SFits w64 c.args.b.x = search rules in let ry : SFits w64 c.args.b.y =
      search rules in left_two c.args.a.x c.args.a.y c.args.a.z c.args.b.x c.args.b.y c.args.b.z a.x
      a.y rx ry
  | inr b ↦ let rx : SFits w64 c.args.a.x = search rules in let ry : SFits w64 c.args.a.y =
      search rules in right_two c.args.a.x c.args.a.y c.args.a.z c.args.b.x c.args.b.y c.args.b.z
      b.x b.y rx ry
]

pub overflow_add-result-2 : goal.overflow_add-result-2
overflow_add-result-2 c = elim c.requires [
  | inl a ↦ let rx : SFits w64 c.args.b.x = search rules in let ry : SFits w64 c.args.b.y =
      search rules in let rz : SFits w64 c.args.b.z = search rules in
      left_three c.args.a.x c.args.a.y c.args.a.z c.args.b.x c.args.b.y c.args.b.z a.x a.y a.z rx ry
      rz
  | inr b ↦ let rx : SFits w64 c.args.a.x = search rules in let ry : SFits w64 c.args.a.y =
      search rules in let rz : SFits w64 c.args.a.z = search rules in
      right_three c.args.a.x c.args.a.y c.args.a.z c.args.b.x c.args.b.y c.args.b.z b.x b.y b.z rx
      ry rz
]

pub returns : goal.returns
returns c = elim c.requires [
  | inl a ↦ let rx : SFits w64 c.args.b.x = search rules in let ry : SFits w64 c.args.b.y =
      search rules in let rz : SFits w64 c.args.b.z = search rules in
      left_is c.args.a.x c.args.a.y c.args.a.z c.args.b.x c.args.b.y c.args.b.z a.x a.y a.z rx ry rz
  | inr b ↦ let rx : SFits w64 c.args.a.x = search rules in let ry : SFits w64 c.args.a.y =
      search rules in let rz : SFits w64 c.args.a.z = search rules in
      right_is c.args.a.x c.args.a.y c.args.a.z c.args.b.x c.args.b.y c.args.b.z b.x b.y b.z rx ry
      rz
]

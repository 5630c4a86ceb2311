-- Forces and moments as vectors.
use Rattle.wrench_geometry.specs.declared.vector.Vec3.{Vec3}
use Rattle.log_audit.specs.declared.totals.Total.{Total}

abbrev pub vector_of : Total → Vec3
vector_of total = record { x = total.x; y = total.y; z = total.z }
